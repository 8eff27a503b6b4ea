-- The set that is kept for a trace stays one.
use Rattle.std.proofs.Common.{ℕ, ◌≡◌, List, length, sym, ap, ◌∙◌, subst, arith}
use Rattle.scm_sequences.specs.declared.op.Op.{Op}
use Rattle.scm_sequences.specs.Sequences.{pushed, cut_lists}
use Rattle.scm_sequences.specs.Traces.{trace_of, cut_to}
use Rattle.scm_reach.specs.inner.Cutting.{cut_members}
use Rattle.scm_reach.specs.Kept.{Kept, IsKept}
use Rattle.scm_reach.specs.laws.WorkLaws.{length-cut-le}
use Rattle.scm_cells.specs.CellLists.{initials_of}
use Rattle.scm_book.specs.Machine.{TraceState}
use Rattle.scm_book.specs.inner.Sound.{IsKeptFor}

-- said of the set's own initial values
pub kept_of : (state : TraceState) (set : Kept) → IsKeptFor state set → IsKept (trace_of set.initials state.sequences) set.members
kept_of state set for = subst (λ initials. IsKept (trace_of initials state.sequences) set.members) (sym for.initials) for.kept

-- after a report
pub IsKeptFor-grown : (state : TraceState) (old new : Kept) (p : ℕ) (op : Op) (sequences : List (List Op)) → IsKeptFor state old
    → ((all : List (List Op)) (o : Op) → IsKept (trace_of old.initials all) old.members → IsKept (trace_of old.initials (pushed all p o)) new.members) → new.members ≡ old.members → new.initials ≡ old.initials
    → sequences ≡ pushed state.sequences p op → IsKeptFor (record state { sequences = sequences }) new
IsKeptFor-grown state old new p op sequences for grows same initials is =
    record {
      initials = initials ∙ for.initials;
      kept = subst (λ (all : List (List Op)). IsKept (trace_of (initials_of state.cells) all) new.members) (sym is) (subst (λ i. IsKept (trace_of i (pushed state.sequences p op)) new.members) for.initials (grows state.sequences op (kept_of state old for)));
      few = omega (arith, ap length same, for.few);
    }

-- after a return
pub IsKeptFor-cut : (state : TraceState) (old new : Kept) (lengths : List ℕ) (sequences : List (List Op)) (marks : List (List ℕ)) → IsKeptFor state old → new.members ≡ cut_members lengths old.members
    → IsKept (cut_to (trace_of old.initials state.sequences) lengths) new.members → new.initials ≡ old.initials → sequences ≡ cut_lists state.sequences lengths → IsKeptFor (record state { sequences = sequences; marks = marks }) new
IsKeptFor-cut state old new lengths sequences marks for cut kept initials is =
    record {
      initials = initials ∙ for.initials;
      kept = subst (λ (all : List (List Op)). IsKept (trace_of (initials_of state.cells) all) new.members) (sym is) (subst (λ i. IsKept (trace_of i (cut_lists state.sequences lengths)) new.members) for.initials kept);
      few = omega (arith, ap length cut, length-cut-le lengths old.members, for.few);
    }
