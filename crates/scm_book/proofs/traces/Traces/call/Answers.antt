use Rattle.scm_book.specs.Machine.{call_data, reply_data}
use Rattle.scm_book.specs.inner.Sets.{machine_in}
use Rattle.scm_book.proofs.Planning.{carried, known_step, known_leaves}
use Rattle.scm_book.proofs.traces.Traces.call.Goals as goal

pub returns-in-Known-clause-step : goal.returns-in-Known-clause-step
returns-in-Known-clause-step c =
    known_step (machine_in c.args.self.now) c.args.session (call_data c.args.call.now) (reply_data c.in-Known.reply) (carried (machine_in c.args.self.now) (call_data c.args.call.now) c.args.outlook c.in-Known.reply c.in-Known.is c.requires.known)

pub returns-in-Known-clause-sets : goal.returns-in-Known-clause-sets
returns-in-Known-clause-sets c =
    known_leaves c.args.self.now (call_data c.args.call.now) (reply_data c.in-Known.reply) c.args.steps.now (carried (machine_in c.args.self.now) (call_data c.args.call.now) c.args.outlook c.in-Known.reply c.in-Known.is c.requires.known)
