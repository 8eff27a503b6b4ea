-- What the book's own clauses say of a question.
use Rattle.std.specs.Prelude.{ℕ, ◌≡◌, ◌≢◌, ◌+◌, ◌*◌, ◌<◌, ◌≤◌, ◌^◌, List, length, Option, Bool, true, false}
use Rattle.scm_sequences.specs.declared.op.Op.{Op}
use Rattle.scm_sequences.specs.Sequences.{NamesCellsBelow, IsWithin, lengths_of}
use Rattle.scm_sequences.specs.Traces.{trace_of}
use Rattle.scm_cells.specs.CellLists.{Declared, initials_of}
use Rattle.scm_frontier.specs.Situations.{Situated}
use Rattle.scm_reach.specs.Kept.{Kept, IsKept}
use Rattle.scm_reach.specs.Work.{KeepsWork}
use Rattle.scm_book.specs.Machine.{ReplyData, because, inconsistent, TraceState, Asks, AsksWhy}

-- the set may be asked: it is kept for the trace of these cells and sequences, with no more members than the limit, the
-- lengths lie within the trace, and a counter that stands here has room
pub record CanAsk (cells : List Declared) (sequences : List (List Op)) (lengths : List ℕ) (limit : ℕ) (set : Kept) (made : ℕ) : Type 0 where
  pub initials : set.initials ≡ initials_of cells
  pub within : IsWithin lengths (lengths_of sequences)
  pub names : NamesCellsBelow (length set.initials) sequences
  pub kept : IsKept (trace_of set.initials sequences) set.members
  pub few : length set.members ≤ limit
  pub room : made + limit * length lengths + 2 < 2 ^ 64

-- it was asked, while a counter of steps went from before to after
pub record WasAsked (sequences : List (List Op)) (lengths : List ℕ) (limit : ℕ) (old : Kept) (before : ℕ) (new : Kept) (after : ℕ) : Type 0 where
  pub initials : new.initials ≡ old.initials
  pub kept : IsKept (trace_of old.initials sequences) new.members
  pub few : length new.members ≤ limit
  pub work : KeepsWork (record { sequences = sequences; lengths = lengths }) limit old.members before new.members after

-- where there is no schedule: a refutation where one is wanted, else the word alone
abbrev pub IsAsWanted : Bool → ReplyData → Type 0
IsAsWanted true reply = reply ≢ inconsistent
IsAsWanted false reply = (situations : List Situated) → reply ≢ because situations

-- what `ask` or `why` replies, as it is wanted
abbrev pub AsksFor : Bool → TraceState → Option ℕ → ReplyData → Type 0
AsksFor true state mark reply = AsksWhy state mark reply
AsksFor false state mark reply = Asks state mark reply
