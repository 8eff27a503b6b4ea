-- What a pass and the book hold of the table: the pass a badge, the book its seat.
use Rattle.std.specs.Prelude.{ℕ, ◌≡◌, List, [], ◌∷◌}
use Rattle.atomic_table.specs.Seated.{TableId}
use Rattle.atomic_table.specs.Table.{Me}
use Rattle.scm_book.specs.declared.entry.Entry.{Entry}
use Rattle.scm_book.specs.Machine.{EntryData}
use Rattle.scm_shared.specs.Passes.{Known, newcomer}
use Rattle.scm_shared.specs.inner.Rule.{SeatView, keeper, holder}

-- the name of no table
abbrev pub no_table : TableId
no_table = record { words = 0; slots = 0; views_name = 0; atom = 0; block = 0; offset = 0; slot_names = [] }

abbrev pub first_of : List Known → Known
first_of [] = newcomer 0
first_of (pass ∷ others) = pass

-- the pass of a badge
abbrev pub known_in : List SeatView → Known
known_in [] = newcomer 0
known_in (view ∷ others) = first_of view.passes

-- the badge is that of this pass
abbrev pub IsPassOf : List SeatView → Known → Type 0
IsPassOf views pass = views ≡ holder (pass ∷ []) ∷ []

-- the badge of a pass is in its place
abbrev pub HasPass : List SeatView → Type 0
HasPass views = IsPassOf views (known_in views)

-- the seat is the book's, which knows this history and how many passes entered
abbrev pub IsKeeper : Me Entry SeatView → List EntryData → ℕ → Type 0
IsKeeper me log entered = me ≡ (keeper log entered [], [])

abbrev pub IsBooks : Me Entry SeatView → Type 0
IsBooks me = IsKeeper me me.0.log me.0.entered
