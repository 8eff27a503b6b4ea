use Rattle.scm_book.specs.inner.Workers.{OffersNew}
use Rattle.scm_book.proofs.Taking.{HoldsOfNoneBelow}
use Rattle.scm_book.proofs.traces.Traces.first_new.Given as goal

-- none of the traces so far offers what wasn't handed out
abbrev pub invariant-loop-place : goal.invariant-loop-place
invariant-loop-place l = HoldsOfNoneBelow OffersNew l.self-inside.traces.entries l.place
