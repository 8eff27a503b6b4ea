-- The steps of the length word: how each changes what a seat knows, and what it tells.
use Rattle.std.specs.Prelude.{ℕ, ◌≡◌, ◌+◌, List, [], ◌∷◌, ◌++◌, length}
use mathlib.Core.Option.{Option, some, none}
use Rattle.atomic_table.specs.Table.{Me, Step}
use Rattle.scm_book.specs.declared.entry.Entry.{Entry}
use Rattle.scm_book.specs.Machine.{EntryData, entry_data}
use Rattle.scm_shared.specs.Passes.{Known, known, newcomer, at_front}
use Rattle.scm_shared.specs.inner.Rule.{SeatView, keeper, holder, AllFitHistory, AllGiven, AreDifferent}

-- ---- enter: a new pass's seat is split off the book's

abbrev pub with_one_more : SeatView → SeatView
with_one_more view = record view { entered = view.entered + 1 }

abbrev pub next_newcomer : SeatView → SeatView
next_newcomer view = holder (newcomer view.entered ∷ [])

-- ---- call, audit, meet: a seat is joined to another

abbrev pub both : SeatView → SeatView → SeatView
both view other = record view { passes = view.passes ++ other.passes }

-- ---- and its last pass is parted from it again

abbrev pub but_last : List Known → List Known
but_last [] = []
but_last (pass ∷ []) = []
but_last (pass ∷ other ∷ others) = pass ∷ but_last (other ∷ others)

abbrev pub last_only : List Known → List Known
last_only [] = []
last_only (pass ∷ []) = pass ∷ []
last_only (pass ∷ other ∷ others) = last_only (other ∷ others)

abbrev pub staying : SeatView → SeatView
staying view = record view { passes = but_last view.passes }

abbrev pub parted : SeatView → SeatView
parted view = holder (last_only view.passes)

-- ---- call: the word takes the journal's new length, and the entry stands last in the history that the book's seat and the
-- caller's pass with it have seen

-- the pass has seen this history
abbrev pub caught_up : List EntryData → Known → Known
caught_up log pass = known pass.number pass.made log (length log)

-- the pass made the call of this last entry of the history
abbrev pub called : EntryData → List EntryData → Known → Known
called entry log pass = known pass.number (pass.made ++ (entry.call, entry.reply) ∷ []) log (length log)

abbrev pub all_called : EntryData → List EntryData → List Known → List Known
all_called entry log [] = []
all_called entry log (pass ∷ others) = called entry log pass ∷ all_called entry log others

abbrev pub with_entry : Option Entry → SeatView → SeatView
with_entry none view = view
with_entry (some entry) view =
    let log = view.log ++ entry_data entry ∷ [] in
    keeper log view.entered (all_called (entry_data entry) log view.passes)

abbrev pub TellsCommit : Step Entry → Me Entry SeatView → ℕ → Me Entry SeatView → Type 0
TellsCommit step before found after = (after ≡ (with_entry step.said before.0, [])) × AllFitHistory before.0.log before.0.passes

-- ---- a call that is refused for a full journal, audit: the book's seat with a pass looks at the word

abbrev pub all_caught_up : List EntryData → List Known → List Known
all_caught_up log [] = []
all_caught_up log (pass ∷ others) = caught_up log pass ∷ all_caught_up log others

abbrev pub TellsHistory : Step Entry → Me Entry SeatView → ℕ → Me Entry SeatView → Type 0
TellsHistory step before found after =
    (after ≡ (keeper before.0.log before.0.entered (all_caught_up before.0.log before.0.passes), []))
    × AllFitHistory before.0.log before.0.passes
    × AllGiven before.0.entered before.0.passes
    × AreDifferent before.0.passes

-- ---- front, meet: a seat of passes looks at the word, without the lock

abbrev pub all_at_front : ℕ → List Known → List Known
all_at_front found [] = []
all_at_front found (pass ∷ others) = at_front found pass ∷ all_at_front found others

-- all its passes fit one history of the length that was found
abbrev pub TellsFront : Step Entry → Me Entry SeatView → ℕ → Me Entry SeatView → Type 0
TellsFront step before found after =
    (after ≡ (record before.0 { passes = all_at_front found before.0.passes }, []))
    × ((log : List EntryData) × (length log ≡ found) × AllFitHistory log before.0.passes)
