-- The rule of the length word. Beside the lock stands a word, the length of the history. Each seat of its table knows
-- something: the book's seat the whole history, the seat of a pass what the pass has seen.
use Rattle.std.specs.Prelude.{ℕ, ◌≡◌, ◌<◌, ◌≤◌, ⊤, List, [], ◌∷◌, length, Bool, true, false, ◌==◌, count_by}
use Rattle.std.specs.List.{sum_by}
use mathlib.Core.Option.{some}
use mathlib.Core.List.{IsPrefix}
use lib.ListN.{get_elem?}
use Rattle.scm_book.specs.Machine.{EntryData}
use Rattle.scm_book.specs.inner.Callers.{calls_by}
use Rattle.scm_shared.specs.Passes.{Known}

-- what a seat knows. A pass's seat has this one pass, and while two passes meet, one seat has both
pub record SeatView : Type 0 where
  -- whether it is the book's
  pub keeps : Bool
  -- the whole history, and how many passes entered: where it is the book's
  pub log : List EntryData
  pub entered : ℕ
  pub passes : List Known

-- the book's seat
abbrev pub keeper : List EntryData → ℕ → List Known → SeatView
keeper log entered passes = record { keeps = true; log = log; entered = entered; passes = passes }

-- the seat of these passes
abbrev pub holder : List Known → SeatView
holder passes = record { keeps = false; log = []; entered = 0; passes = passes }

-- a seat that was joined to another
abbrev pub nobody : SeatView
nobody = holder []

-- a pass's history is a beginning of the whole one, and the length that it was told lies between the two. Its own calls are
-- the entries of its session, and none of these lies beyond what it has seen
pub record FitsHistory (log : List EntryData) (pass : Known) : Type 0 where
  pub begins : IsPrefix pass.seen log
  pub seen : length pass.seen ≤ pass.front
  pub front : pass.front ≤ length log
  pub own : calls_by pass.number pass.seen ≡ pass.made
  pub all : calls_by pass.number log ≡ pass.made

abbrev pub AllFitHistory : List EntryData → List Known → Type 0
AllFitHistory log [] = ⊤
AllFitHistory log (pass ∷ others) = FitsHistory log pass × AllFitHistory log others

-- so many passes entered: the numbers of these were given
abbrev pub AllGiven : ℕ → List Known → Type 0
AllGiven entered [] = ⊤
AllGiven entered (pass ∷ others) = (pass.number < entered) × AllGiven entered others

-- no number is on two of these
abbrev pub AreDifferent : List Known → Type 0
AreDifferent passes = (number : ℕ) → count_by (λ pass. pass.number == number) passes ≤ 1

-- only this seat is the book's, and it knows the whole history; every pass fits it
pub record FitsView (seat : ℕ) (log : List EntryData) (entered : ℕ) (place : ℕ) (view : SeatView) : Type 0 where
  pub book : view.keeps ≡ true → (place ≡ seat) × (view.log ≡ log) × (view.entered ≡ entered)
  pub passes : AllFitHistory log view.passes

-- how many of a seat's passes have this number
abbrev pub holds : ℕ → SeatView → ℕ
holds number view = count_by (λ pass. pass.number == number) view.passes

-- the word is the length of the history, and every seat fits it; no number is on two passes, and no number that is still to
-- be given is on a pass or in the history
pub record KeptAs (words : List ℕ) (views : List SeatView) (seat : ℕ) (log : List EntryData) (entered : ℕ) : Type 0 where
  pub word : words ≡ length log ∷ []
  pub fits : (place : ℕ) (view : SeatView) → get_elem? views place ≡ some view → FitsView seat log entered place view
  pub once : (number : ℕ) → sum_by (holds number) views ≤ 1
  pub free : (number : ℕ) → entered ≤ number → (sum_by (holds number) views ≡ 0) × (calls_by number log ≡ [])

-- there is one history for all seats
abbrev pub HasOneHistory : List ℕ → List SeatView → Type 0
HasOneHistory words views = (seat : ℕ) × (log : List EntryData) × (entered : ℕ) × KeptAs words views seat log entered
