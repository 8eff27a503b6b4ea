use Rattle.scm_book.specs.inner.Workers.{Offers}
use Rattle.scm_book.proofs.Taking.{HoldsOfNoneBelow}
use Rattle.scm_book.proofs.traces.Traces.first.Given as goal

-- none of the traces so far offers
abbrev pub invariant-loop-place : goal.invariant-loop-place
invariant-loop-place l = HoldsOfNoneBelow Offers l.self-inside.traces.entries l.place
