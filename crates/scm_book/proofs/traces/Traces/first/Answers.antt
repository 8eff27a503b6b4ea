use Rattle.std.proofs.Common.{subst, arith}
use Rattle.scm_book.specs.inner.Sets.{machine_in, sets_in}
use Rattle.scm_book.specs.inner.Workers.{Offers, OffersNothing}
use Rattle.scm_book.proofs.Taking.{holds_of_none}
use Rattle.scm_book.proofs.traces.Traces.first.Goals as goal

pub returns : goal.returns
returns c =
    subst (λ ts. OffersNothing (machine_in ts) (sets_in ts)) c.self.view_is
    (holds_of_none Offers c.self.inside.traces.entries c.loop-place.place (omega (arith, c.loop-place-test.false, c.len-place-end.ensures.len, c.loop-place.auto.place-end)) c.loop-place.invariant)
