use Rattle.std.proofs.Common.{ℕ, ◌<◌}
use Rattle.scm_orders.specs.Refuting.{IsSettled}
use Rattle.scm_orders.proofs.candidates.are_settled.Given as goal

abbrev pub invariant-loop-p : goal.invariant-loop-p
invariant-loop-p l = (process : ℕ) → process < l.p → (at : ℕ) → IsSettled l.on.trace.now l.on.earlier.now l.on.hints.now l.read l.left (record { process = process; at = at })
