use Rattle.std.proofs.Common.{ℕ, ◌<◌, IsSomeAnd, slice_get}
use Rattle.scm_orders.specs.Refuting.{IsMet, Assumes, hints_near}
use Rattle.scm_orders.proofs.lemmas.are_met.Given as goal

abbrev pub invariant-loop-k : goal.invariant-loop-k
invariant-loop-k l = (j : ℕ) → j < l.k → IsSomeAnd (slice_get l.lines j) (λ line. Assumes l.block line × IsMet l.on.trace.now l.on.earlier.now (hints_near l.on.hints.now j) l.fact line.fact)
