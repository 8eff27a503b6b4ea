use Rattle.std.proofs.Common.{ℕ, List, Option, length, sym, subst₂}
use Rattle.scm_sequences.specs.declared.op.Op.{Op}
use Rattle.scm_sequences.specs.Sequences.{NamesCellsBelow}
use Rattle.scm_sequences.specs.laws.SequenceLaws.{NamesCellsBelow-cut_lists}
use Rattle.scm_sequences.specs.Traces.{trace_of}
use Rattle.scm_reach.specs.Kept.{IsKept}
use Rattle.test_set.proofs.subject.Subject.go_back.Goals as goal

pub invariant_of-self : goal.invariant_of-self
invariant_of-self g c = (
  subst₂ (λ (initials : List (Option ℕ)) (sequences : List (List Op)). NamesCellsBelow (length initials) sequences) (sym c.cut.ensures.initials) (sym c.cut-2.ensures)
      (NamesCellsBelow-cut_lists (length c.self.inside.reach.initials) c.self.inside.sequences c.args.lengths.now c.self.invariant.0),
  subst₂ (λ (initials : List (Option ℕ)) (sequences : List (List Op)). IsKept (trace_of initials sequences) c.cut.new.self.members) (sym c.cut.ensures.initials) (sym c.cut-2.ensures) c.cut.ensures.kept,
)
