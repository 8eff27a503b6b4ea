use Rattle.scm_book.proofs.Delivering.{Delivers-taken}
use Rattle.scm_book.proofs.book.Book.deliver.Goals as goal

pub returns-clause-none_taken : goal.returns-clause-none_taken
returns-clause-none_taken c = Delivers-taken _ _ _ c.args.outcomes.items c.deliver-delivered.result c.deliver-delivered.ensures.delivers
