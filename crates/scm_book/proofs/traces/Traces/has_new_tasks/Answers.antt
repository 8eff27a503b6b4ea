use Rattle.std.proofs.Common.{◌≡◌, ◌↔◌, false, subst, sym}
use Rattle.scm_book.specs.inner.Sets.{machine_in, sets_in}
use Rattle.scm_book.specs.inner.Workers.{OffersNew, OffersNothingNew}
use Rattle.scm_book.proofs.Taking.{finds_none}
use Rattle.scm_book.proofs.traces.Traces.has_new_tasks.Goals as goal

pub returns : goal.returns
returns c =
    subst (λ found. (found ≡ false) ↔ OffersNothingNew (machine_in c.args.self.now) (sets_in c.args.self.now)) (sym c.is_some.ensures)
    (finds_none OffersNew c.args.self.now c.first_new.result c.first_new.ensures)
