use Rattle.std.proofs.Common.{◌≡◌, None, Some, sym, ap, ◌∙◌}
use Rattle.std.specs.Option.{option_copied}
use Rattle.scm_book.specs.Machine.{trace_named}
use Rattle.scm_book.specs.inner.Sets.{machine_in}
use Rattle.scm_book.proofs.Entries.{trace_named-lookup}
use Rattle.scm_book.proofs.Leaving.{room_some, room_none}
use Rattle.scm_book.proofs.traces.Traces.has_room.Goals as goal

pub returns-in-Some-clause-exact : goal.returns-in-Some-clause-exact
returns-in-Some-clause-exact c =
    let found : trace_named (machine_in c.args.self.now) c.args.name.now ≡ Some c.in-Some.trace.now.state =
    trace_named-lookup c.args.self.now c.self.inside.traces.entries c.self.view_is c.args.name.now (Some c.in-Some.trace.now) (sym (ap option_copied c.in-Some.is) ∙ c.get.ensures.value) in
    room_some (machine_in c.args.self.now) c.args.name.now c.in-Some.trace.now.state found c.args.steps.now c.made.result c.most_steps.result c.made.ensures c.most_steps.ensures c.most_steps.type_inv

pub returns-in-None-clause-exact : goal.returns-in-None-clause-exact
returns-in-None-clause-exact c =
    room_none (machine_in c.args.self.now) c.args.name.now c.args.steps.now
    (trace_named-lookup c.args.self.now c.self.inside.traces.entries c.self.view_is c.args.name.now None (sym (ap option_copied c.in-None.is) ∙ c.get.ensures.value))
