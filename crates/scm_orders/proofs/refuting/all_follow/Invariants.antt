use Rattle.std.proofs.Common.{ℕ, ◌≡◌, ◌<◌, Some, slice_get}
use Rattle.scm_orders.specs.declared.derivation.Line.{Line}
use Rattle.scm_orders.specs.Refuting.{LineFollows}
use Rattle.scm_orders.proofs.refuting.all_follow.Given as goal

abbrev pub invariant-loop-k : goal.invariant-loop-k
invariant-loop-k l = (j : ℕ) → j < l.k → (line : Line) → slice_get l.lines j ≡ Some line → LineFollows l.trace l.lines l.hints j line
