use Rattle.std.proofs.Common.{ℕ, List, Option, ◌≡◌, ◌<◌, length, sym, subst, subst₂}
use Rattle.scm_sequences.specs.declared.op.Op.{Op}
use Rattle.scm_sequences.specs.Sequences.{cell_of, NamesCellsBelow, pushed}
use Rattle.scm_sequences.specs.laws.SequenceLaws.{NamesCellsBelow-pushed}
use Rattle.scm_sequences.specs.Traces.{trace_of}
use Rattle.scm_reach.specs.Kept.{Kept, IsKept}
use Rattle.test_set.proofs.subject.Subject.push.Goals as goal

pub invariant_of-self-2 : goal.invariant_of-self-2
invariant_of-self-2 c =
    let pushed-is : c.push.new.self ≡ pushed c.self.inside.sequences c.args.p c.args.op = c.in_ok-push.ensures.ok.1 in
    let below : cell_of c.args.op < length c.self.inside.reach.initials = subst (λ (kept : Kept). cell_of c.args.op < length kept.initials) (sym c.self.view_is) c.requires in (
      subst₂ (λ (initials : List (Option ℕ)) (sequences : List (List Op)). NamesCellsBelow (length initials) sequences) (sym c.grown.ensures.initials) (sym pushed-is)
          (NamesCellsBelow-pushed (length c.self.inside.reach.initials) c.self.inside.sequences c.args.p c.args.op c.self.invariant.0 below),
      subst₂ (λ (initials : List (Option ℕ)) (sequences : List (List Op)). IsKept (trace_of initials sequences) c.grown.new.self.members) (sym c.grown.ensures.initials) (sym pushed-is)
          (c.grown.ensures.kept c.self.inside.sequences c.args.op c.self.invariant.1),
    )
