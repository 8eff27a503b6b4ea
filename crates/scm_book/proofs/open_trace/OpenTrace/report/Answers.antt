use Rattle.std.proofs.Common.{ℕ, ◌≤◌, length, sum, sym, subst, Vec}
use Rattle.scm_sequences.specs.Sequences.{lengths_of}
use Rattle.scm_lowering.specs.laws.LoweringLaws.{lowered-cell}
use Rattle.scm_book.proofs.Sounding.{IsSoundTrace-push}
use Rattle.scm_book.proofs.Keeping.{IsKeptFor-grown}
use Rattle.scm_book.proofs.KnownSchedulesLaws.{sum-push}
use Rattle.scm_book.proofs.open_trace.OpenTrace.report.Goals as goal

pub invariant_of-self-2 : goal.invariant_of-self-2
invariant_of-self-2 c = (
  IsSoundTrace-push _ c.in_ok-process.process c.in_ok-op.op c.push.result c.push.new.self c.self.invariant.0 (lowered-cell c.self.inside.cells c.args.access.now c.in_ok-op.op (sym c.in_ok-op.ensures)) c.push.ensures.ok c.push.ensures.unchanged,
  IsKeptFor-grown _ c.self.inside.reach c.grown.new.self c.in_ok-process.process c.in_ok-op.op c.push.new.self c.self.invariant.1 c.grown.ensures.kept c.grown.ensures.members c.grown.ensures.initials c.in_ok-push.ensures.ok.1,
  subst (λ (schedule : Vec ℕ _). length schedule.items ≤ sum (lengths_of c.push.new.self)) (sym c.report.ensures) (sum-push c.self.inside.sequences c.in_ok-process.process (length c.self.inside.schedules.schedule.items) c.in_ok-op.op c.push.result c.push.new.self c.self.invariant.2 c.push.ensures.ok c.push.ensures.unchanged),
)
