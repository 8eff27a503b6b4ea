use Rattle.std.proofs.Common.{◌≡◌, Some, ap, ◌∙◌, sym}
use Rattle.std.specs.Option.{option_copied_mut}
use Rattle.std.specs.Map.{lookup}
use Rattle.scm_cells.specs.CellLists.{name_eq}
use Rattle.scm_book.specs.inner.Sets.{machine_in, sets_in}
use Rattle.scm_book.specs.inner.Workers.{ComesFirst}
use Rattle.scm_book.proofs.Entries.{trace_named-lookup, set_named-lookup, machine-set_same, sets-set_value}
use Rattle.scm_book.proofs.Taking.{holds_of_found, takes_of}
use Rattle.scm_book.proofs.traces.Traces.take.Goals as goal

pub returns-clause-machine : goal.returns-clause-machine
returns-clause-machine c =
    let looked : Some c.unwrap-trace.result.now ≡ lookup (name_eq c.in-Some.name) c.self.inside.traces.entries = sym (ap option_copied_mut c.unwrap-trace.ensures) ∙ c.get_mut.ensures.value in
    machine-set_same c.args.self.now c.self.inside.traces.entries c.self.view_is c.in-Some.name c.unwrap-trace.result.now c.tasks.new.self _ looked (c.get_mut.follows.holds c.tasks.new.self).0 c.tasks.ensures.state

pub returns-clause-takes : goal.returns-clause-takes
returns-clause-takes c =
    let looked : Some c.unwrap-trace.result.now ≡ lookup (name_eq c.in-Some.name) c.self.inside.traces.entries = sym (ap option_copied_mut c.unwrap-trace.ensures) ∙ c.get_mut.ensures.value in
    takes_of (λ v. v.items) c.tasks.result (machine_in c.args.self.now) _ _ c.args.n c.in-Some.name c.unwrap-trace.result.now.state c.unwrap-trace.result.now.set c.tasks.new.self.set
    (trace_named-lookup c.args.self.now c.self.inside.traces.entries c.self.view_is c.in-Some.name (Some c.unwrap-trace.result.now) looked)
    (set_named-lookup c.args.self.now c.self.inside.traces.entries c.self.view_is c.in-Some.name (Some c.unwrap-trace.result.now) looked)
    (holds_of_found (ComesFirst (machine_in c.args.self.now) (sets_in c.args.self.now)) c.self.inside.traces.entries c.args.self.now c.in-Some.name c.unwrap-trace.result.now c.self.view_is looked c.in-Some.ensures) c.tasks.ensures.initials
    (sets-set_value c.args.self.now c.self.inside.traces.entries c.self.view_is c.in-Some.name c.unwrap-trace.result.now c.tasks.new.self _ looked (c.get_mut.follows.holds c.tasks.new.self).0)
    c.tasks.ensures.hands c.tasks.ensures.unchanged
