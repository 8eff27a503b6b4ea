use Rattle.scm_book.specs.Machine.{call_data, reply_data}
use Rattle.scm_book.specs.laws.ReplyLaws.{IsCall-good, IsCall-sessions}
use Rattle.scm_book.proofs.book.Book.call_planned.Goals as goal

pub returns-clause-good : goal.returns-clause-good
returns-clause-good c = IsCall-good c.args.self.now c.make.new.self c.args.session (call_data c.args.call) (reply_data c.make.result) c.make.ensures.called

pub returns-clause-sessions : goal.returns-clause-sessions
returns-clause-sessions c = IsCall-sessions c.args.self.now c.make.new.self c.args.session (call_data c.args.call) (reply_data c.make.result) c.make.ensures.called
