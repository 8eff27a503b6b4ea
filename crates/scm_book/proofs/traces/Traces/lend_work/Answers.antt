use Rattle.std.proofs.Common.{◌≡◌, Some, ap, ◌∙◌, sym}
use Rattle.std.specs.Option.{option_copied_mut}
use Rattle.std.specs.Map.{lookup}
use Rattle.scm_cells.specs.CellLists.{name_eq}
use Rattle.scm_book.specs.inner.Sets.{machine_in}
use Rattle.scm_book.proofs.Entries.{trace_named-lookup, set_named-lookup, machine-set_same, sets-set_value}
use Rattle.scm_book.proofs.LendingLaws.{lent_work_of}
use Rattle.scm_book.proofs.traces.Traces.lend_work.Goals as goal

pub returns-clause-machine : goal.returns-clause-machine
returns-clause-machine c =
    let looked : Some c.in_ok-trace.trace.now ≡ lookup (name_eq c.in_ok-name.name) c.self.inside.traces.entries = sym (ap option_copied_mut c.in_ok-trace.was) ∙ c.get_mut.ensures.value in
    machine-set_same c.args.self.now c.self.inside.traces.entries c.self.view_is c.in_ok-name.name c.in_ok-trace.trace.now c.lend_work.new.self _ looked (c.get_mut.follows.holds c.lend_work.new.self).0 c.lend_work.ensures.state

pub returns-clause-lends : goal.returns-clause-lends
returns-clause-lends c =
    let looked : Some c.in_ok-trace.trace.now ≡ lookup (name_eq c.in_ok-name.name) c.self.inside.traces.entries = sym (ap option_copied_mut c.in_ok-trace.was) ∙ c.get_mut.ensures.value in
    lent_work_of (machine_in c.args.self.now) _ _ c.in_ok-name.name c.in_ok-trace.trace.now.state c.in_ok-trace.trace.now.set c.lend_work.new.self.set c.lend_work.result
    (trace_named-lookup c.args.self.now c.self.inside.traces.entries c.self.view_is c.in_ok-name.name (Some c.in_ok-trace.trace.now) looked)
    (set_named-lookup c.args.self.now c.self.inside.traces.entries c.self.view_is c.in_ok-name.name (Some c.in_ok-trace.trace.now) looked)
    c.lend_work.ensures.lends
    (sets-set_value c.args.self.now c.self.inside.traces.entries c.self.view_is c.in_ok-name.name c.in_ok-trace.trace.now c.lend_work.new.self _ looked (c.get_mut.follows.holds c.lend_work.new.self).0)
