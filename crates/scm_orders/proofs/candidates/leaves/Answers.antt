use Rattle.std.proofs.Common.{subst}
use Rattle.scm_orders.specs.Refuting.{LeavesOnly}
use Rattle.scm_orders.proofs.PlaceLaws.{one_reading}
use Rattle.scm_orders.proofs.candidates.leaves.Goals as goal

pub returns-in-Some : goal.returns-in-Some
returns-in-Some c = (
  (λ yes. (c.in-Some.read, c.in-Some.ensures, c.leaves_only.ensures.0 yes)),
  (λ is. c.leaves_only.ensures.1 (subst (LeavesOnly c.args.on.now.trace.now c.args.on.now.earlier.now c.args.on.now.hints.now c.args.left) (one_reading c.args.on.now.trace.now c.args.place is.0 c.in-Some.read is.1 c.in-Some.ensures) is.2)),
)
