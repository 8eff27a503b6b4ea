use Rattle.std.proofs.Common.{ℕ, ◌<◌}
use Rattle.scm_orders.specs.Refuting.{IsSettled}
use Rattle.scm_orders.proofs.candidates.is_process_settled.Given as goal

abbrev pub invariant-loop-at : goal.invariant-loop-at
invariant-loop-at l = (at : ℕ) → at < l.at → IsSettled l.on.trace.now l.on.earlier.now l.on.hints.now l.read l.left (record { process = l.process; at = at })
