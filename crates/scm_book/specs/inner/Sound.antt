-- What holds of every open trace.
use Rattle.std.specs.Prelude.{◌≡◌, ◌≤◌, [], ◌∷◌, ◌++◌, length, AllPairs}
use Rattle.scm_sequences.specs.declared.limits.TheConstants.{MOST_SITUATIONS}
use Rattle.scm_sequences.specs.Sequences.{NamesCellsBelow, IsWithin, AreSequences, lengths_of}
use Rattle.scm_cells.specs.CellLists.{AreCells, initials_of}
use Rattle.scm_reach.specs.Kept.{Kept, IsKept}
use Rattle.scm_book.specs.Machine.{TraceState, trace_in}

-- its cells and sequences are such, the operations name its cells, each process has a place for its claimant, the budget
-- is one, and each mark is within the later ones and within the present lengths
pub record IsSoundTrace (state : TraceState) : Type 0 where
  pub cells : AreCells state.cells
  pub sequences : AreSequences state.sequences
  pub names : NamesCellsBelow (length state.cells) state.sequences
  pub claimants : length state.claimants ≡ length state.sequences
  pub least : 1 ≤ state.budget
  pub most : state.budget ≤ MOST_SITUATIONS
  pub marks : AllPairs IsWithin (state.marks ++ lengths_of state.sequences ∷ [])

-- beside a trace stands a set that is kept for it: a kept set of its cells and sequences, with no more members than the
-- budget allows. It is no part of the machine
pub record IsKeptFor (state : TraceState) (set : Kept) : Type 0 where
  pub initials : set.initials ≡ initials_of state.cells
  pub kept : IsKept (trace_in state) set.members
  pub few : length set.members ≤ state.budget
