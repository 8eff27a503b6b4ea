use Rattle.std.proofs.Common.{◌≡◌, None, Some, ap, ◌∙◌, sym, refl}
use Rattle.std.specs.Option.{option_copied_mut}
use Rattle.std.specs.Map.{lookup}
use Rattle.scm_cells.specs.CellLists.{name_eq}
use Rattle.scm_expand.specs.declared.task.Task.{Task}
use Rattle.scm_book.specs.inner.Sets.{machine_in}
use Rattle.scm_book.proofs.Delivering.{meets_none, meets_some}
use Rattle.scm_book.proofs.Entries.{trace_named-lookup, set_named-lookup, machine-set_same, sets-same, sets-set_value}
use Rattle.scm_book.proofs.traces.Traces.accept.Goals as goal

pub returns-in_default-clause-meets : goal.returns-in_default-clause-meets
returns-in_default-clause-meets c =
    meets_none (machine_in c.args.self.now) _ _ c.args.outcome _ c.task.result.now.trace (ap (λ (t : Task). t.trace) c.task.ensures)
    (trace_named-lookup c.args.self.now c.self.inside.traces.entries c.self.view_is c.task.result.now.trace None (sym (ap option_copied_mut c.in_default.is) ∙ c.get_mut.ensures.value))
    refl
    (sets-same c.args.self.now c.self.inside.traces.entries c.self.view_is c.task.result.now.trace _ (ap (λ m. m.entries) c.get_mut.follows.holds-at-none))

pub returns-clause-machine : goal.returns-clause-machine
returns-clause-machine c =
    let looked : Some c.in-Some.trace.now ≡ lookup (name_eq c.task.result.now.trace) c.self.inside.traces.entries = sym (ap option_copied_mut c.in-Some.is) ∙ c.get_mut.ensures.value in
    machine-set_same c.args.self.now c.self.inside.traces.entries c.self.view_is c.task.result.now.trace c.in-Some.trace.now c.accept.new.self _ looked (c.get_mut.follows.holds c.accept.new.self).0 c.accept.ensures.state

pub returns-clause-meets : goal.returns-clause-meets
returns-clause-meets c =
    let looked : Some c.in-Some.trace.now ≡ lookup (name_eq c.task.result.now.trace) c.self.inside.traces.entries = sym (ap option_copied_mut c.in-Some.is) ∙ c.get_mut.ensures.value in
    meets_some (machine_in c.args.self.now) _ _ c.args.outcome c.accept.result c.task.result.now.trace (ap (λ (t : Task). t.trace) c.task.ensures) c.in-Some.trace.now.state c.in-Some.trace.now.set c.accept.new.self.set
    (trace_named-lookup c.args.self.now c.self.inside.traces.entries c.self.view_is c.task.result.now.trace (Some c.in-Some.trace.now) looked)
    (set_named-lookup c.args.self.now c.self.inside.traces.entries c.self.view_is c.task.result.now.trace (Some c.in-Some.trace.now) looked)
    c.accept.ensures.initials c.accept.ensures.accepts
    (sets-set_value c.args.self.now c.self.inside.traces.entries c.self.view_is c.task.result.now.trace c.in-Some.trace.now c.accept.new.self _ looked (c.get_mut.follows.holds c.accept.new.self).0)
