use Rattle.std.proofs.Common.{◌∙◌, subst}
use Rattle.scm_book.specs.Machine.{Machine}
use Rattle.scm_book.specs.inner.Sets.{machine_in, sets_in}
use Rattle.scm_book.specs.inner.Workers.{Meets}
use Rattle.scm_book.proofs.Delivering.{Delivers-more}
use Rattle.scm_book.proofs.traces.Traces.deliver.Goals as goal

pub loop-outcome-preserved : goal.loop-outcome-preserved
loop-outcome-preserved c = (
  c.accept.ensures.machine ∙ c.loop-outcome.invariant.0,
  Delivers-more (machine_in c.args.self.now) (sets_in c.args.self.now) (sets_in c.loop-outcome.self) _ c.loop-outcome.yielded c.loop-outcome.delivered c.deliver.new.self c.in-Some.outcome c.accept.result c.loop-outcome.invariant.1
      (subst (λ (m : Machine). Meets m (sets_in c.loop-outcome.self) c.in-Some.outcome c.accept.result (sets_in c.accept.new.self)) c.loop-outcome.invariant.0 c.accept.ensures.meets) c.deliver.ensures.totals,
)
