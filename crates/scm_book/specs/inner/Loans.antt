-- Questions that are searched beside the book: what is lent, what a search makes of it, and what is taken back. None of it is
-- a step of the machine.
use Rattle.std.specs.Prelude.{ℕ, ◌≡◌, ◌≢◌, ◌+◌, ◌*◌, ◌<◌, ◌≤◌, ◌^◌, ◌⊎◌, List, length, Option, None, Some, Ok, MatchOption}
use Rattle.scm_sequences.specs.declared.limits.TheConstants.{MOST_CELLS}
use Rattle.scm_sequences.specs.declared.op.Op.{Op}
use Rattle.scm_sequences.specs.Sequences.{NamesCellsBelow, IsWithin, operations, lengths_of}
use Rattle.scm_sequences.specs.Traces.{Trace, cut_to, trace_of}
use Rattle.scm_cells.specs.CellLists.{initials_of}
use Rattle.scm_reach.specs.Kept.{Kept, Member, IsKept}
use Rattle.scm_reach.specs.inner.Carrying.{IsCarriedOver}
use Rattle.scm_reach.specs.inner.Handing.{HasOpen}
use Rattle.scm_reach.specs.Work.{HasWhole, KeepsWork}
use Rattle.scm_book.specs.Machine.{CallData, asks, asks_why, Machine, TraceState, trace_named}
use Rattle.scm_book.specs.Journal.{BookState, IsUnchanged}
use Rattle.scm_book.specs.inner.Sets.{asked_lengths, Becomes}

-- a question with all that its search needs
pub record Loaned : Type 0 where
  -- the name of its trace, the sequences that the trace had, and the lengths that it is about
  pub name : List ℕ
  pub sequences : List (List Op)
  pub lengths : List ℕ
  -- how many situations may be kept
  pub limit : ℕ
  -- the set that was kept for the trace
  pub set : Kept

-- the trace that it asks about
abbrev pub asked_trace : Loaned → Trace
asked_trace q = cut_to (trace_of q.set.initials q.sequences) q.lengths

-- schedules of the trace cut to these lengths may be judged
pub record CanJudge (sequences : List (List Op)) (lengths : List ℕ) (initials : List (Option ℕ)) : Type 0 where
  pub cells : length initials ≤ MOST_CELLS
  pub within : IsWithin lengths (lengths_of sequences)
  pub names : NamesCellsBelow (length initials) sequences

-- its set is kept for its own sequences, with no more members than its limit
pub record CanSearch (q : Loaned) : Type 0 where
  pub judge : CanJudge q.sequences q.lengths q.set.initials
  pub kept : IsKept (trace_of q.set.initials q.sequences) q.set.members
  pub few : length q.set.members ≤ q.limit
  pub room : q.limit * length q.lengths + 2 < 2 ^ 64

-- its set was searched under this limit
pub record HasSearchedWithin (limit : ℕ) (old new : Loaned) : Type 0 where
  pub same : new ≡ record old { set = new.set }
  pub initials : new.set.initials ≡ old.set.initials
  pub few : length new.set.members ≤ limit
  pub made : ℕ
  pub work : KeepsWork (record { sequences = old.sequences; lengths = old.lengths }) limit old.set.members 0 new.set.members made

-- its set was searched, as by a question
abbrev pub HasSearched : Loaned → Loaned → Type 0
HasSearched old new = HasSearchedWithin old.limit old new

-- its set was searched under the limit that lets n situations more in, or its budget where that is less
pub record HasWorked (old : Loaned) (n : ℕ) (new : Loaned) : Type 0 where
  pub limit : ℕ
  pub most : limit ≤ old.limit
  pub more : limit ≤ length old.set.members + n
  pub reached : (limit ≡ old.limit) ⊎ (limit ≡ length old.set.members + n)
  pub searched : HasSearchedWithin limit old new

-- a set has a situation with every operation within the lengths, or nothing is left to be looked at
abbrev pub IsSettled : List (List Op) → List ℕ → List Member → Type 0
IsSettled sequences lengths members = HasWhole lengths members ⊎ (HasOpen sequences members → ⊥)

-- ---- copying

-- of p these are there, and of the others what there was
pub record HasPushed (old : List (List Op)) (p : ℕ) (list : List Op) (new : List (List Op)) : Type 0 where
  pub as_many : length new ≡ length old
  pub here : operations new p ≡ list
  pub others : (q : ℕ) → q ≢ p → operations new q ≡ operations old q

-- ---- lending

-- the question with this mark about the trace of this name is lent with the set of the trace, and the start alone stays
pub record Lends (name : List ℕ) (mark : Option ℕ) (state : TraceState) (old : Kept) (q : Loaned) (new : Kept) : Type 0 where
  pub named : q.name ≡ name
  pub sequences : q.sequences ≡ state.sequences
  pub lengths : asked_lengths state mark ≡ Ok q.lengths
  pub limit : q.limit ≡ state.budget
  pub set : q.set ≡ old
  pub initials : new.initials ≡ old.initials
  pub start : length new.members ≡ 1

-- the same of the trace of this name, which is there
pub record IsLentOf (machine : Machine) (old : List (List ℕ × Kept)) (name : List ℕ) (mark : Option ℕ) (q : Loaned) (new : List (List ℕ × Kept)) : Type 0 where
  pub state : TraceState
  pub there : trace_named machine name ≡ Some state
  pub lent : Becomes old name (λ a b. Lends name mark state a q b) new

-- the question that a call asks was lent, and nothing else changed
pub record IsLent (old : BookState) (call : CallData) (q : Loaned) (new : BookState) : Type 0 where
  pub mark : Option ℕ
  pub asked : (call ≡ asks q.name mark) ⊎ (call ≡ asks_why q.name mark)
  pub unchanged : IsUnchanged old new
  pub results : new.results ≡ old.results
  pub steps : new.steps ≡ old.steps
  pub lent : IsLentOf old.machine old.sets q.name mark q new.sets

-- or none was
abbrev pub IsLending : BookState → CallData → Option Loaned → BookState → Type 0
IsLending old call lent new = MatchOption lent (new ≡ old) (λ q. IsLent old call q new)

-- the set of the question's trace was lent for work, as for a question about the present trace, and nothing else changed
pub record IsLentForWork (old : BookState) (q : Loaned) (new : BookState) : Type 0 where
  pub unchanged : IsUnchanged old new
  pub results : new.results ≡ old.results
  pub steps : new.steps ≡ old.steps
  pub lent : IsLentOf old.machine old.sets q.name None q new.sets

-- or none was
abbrev pub IsLendingForWork : BookState → Option Loaned → BookState → Type 0
IsLendingForWork old lent new = MatchOption lent (new ≡ old) (λ q. IsLentForWork old q new)

-- ---- taking back

-- a set of a trace with these sequences can be made one of the trace: that has as many processes and the same first contents
pub record IsAlike (state : TraceState) (sequences : List (List Op)) (set : Kept) : Type 0 where
  pub cells : set.initials ≡ initials_of state.cells
  pub procs : length sequences ≡ length state.sequences

-- the set holds more than the old one, and no more than the budget
pub record IsMore (budget : ℕ) (old set : Kept) : Type 0 where
  pub more : length old.members < length set.members
  pub few : length set.members ≤ budget

-- the set takes the place of the old one where it is more, else all is as it was
abbrev pub TakesPlace : ℕ → Kept → Kept → Kept → Type 0
TakesPlace budget set old new = (IsMore budget old set × (new ≡ set)) ⊎ ((IsMore budget old set → ⊥) × (new ≡ old))

-- a set of a trace with these sequences is made one of the trace as it is, and takes the place of the old one where that is less
pub record IsCarried (state : TraceState) (sequences : List (List Op)) (set old new : Kept) : Type 0 where
  pub alike : IsAlike state sequences set
  pub carried : Kept
  pub initials : carried.initials ≡ set.initials
  pub members : IsCarriedOver sequences state.sequences set.members carried.members
  pub placed : TakesPlace state.budget carried old new

-- where it can't be made one, all is as it was
abbrev pub TakesSet : TraceState → List (List Op) → Kept → Kept → Kept → Type 0
TakesSet state sequences set old new = IsCarried state sequences set old new ⊎ ((IsAlike state sequences set → ⊥) × (new ≡ old))

-- so the question's set is taken
abbrev pub TakesBack : TraceState → Loaned → Kept → Kept → Type 0
TakesBack state q old new = TakesSet state q.sequences q.set old new

-- the same of the question's trace, if it is there
abbrev pub IsTakenBack : Machine → List (List ℕ × Kept) → Loaned → List (List ℕ × Kept) → Type 0
IsTakenBack machine old q new =
    MatchOption (trace_named machine q.name) (new ≡ old) (λ state. Becomes old q.name (TakesBack state q) new)

-- and nothing else changed
pub record IsTakingBack (old : BookState) (q : Loaned) (new : BookState) : Type 0 where
  pub unchanged : IsUnchanged old new
  pub results : new.results ≡ old.results
  pub steps : new.steps ≡ old.steps
  pub taken : IsTakenBack old.machine old.sets q new.sets
