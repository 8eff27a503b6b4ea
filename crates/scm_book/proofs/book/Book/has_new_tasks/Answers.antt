use Rattle.std.proofs.Common.{◌≡◌, ◌↔◌, false, subst}
use Rattle.scm_book.specs.inner.Workers.{OffersNothingNew}
use Rattle.scm_book.proofs.book.Book.has_new_tasks.Goals as goal

pub returns : goal.returns
returns c = subst (λ book. (c.has_new_tasks.result ≡ false) ↔ OffersNothingNew book.machine book.sets) c.self.view_is c.has_new_tasks.ensures
