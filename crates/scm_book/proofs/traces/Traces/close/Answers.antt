use Rattle.std.proofs.Common.{◌≡◌, None, Some, ap, ◌∙◌, sym, refl, inl}
use Rattle.std.specs.Option.{option_copied}
use Rattle.scm_book.specs.Machine.{trace_named}
use Rattle.scm_book.specs.inner.Sets.{machine_in}
use Rattle.scm_book.proofs.Answering.{absent, there_refused, there_made}
use Rattle.scm_book.proofs.Entries.{trace_named-lookup, machine-removed, sets-removed}
use Rattle.scm_book.proofs.traces.Traces.close.Goals as goal

pub returns-in_default-clause-step : goal.returns-in_default-clause-step
returns-in_default-clause-step c =
    absent (machine_in c.args.self.now) (machine_in c.args.self.now) c.args.name _ _
    (trace_named-lookup c.args.self.now c.self.inside.traces.entries c.self.view_is c.args.name None (sym (ap option_copied c.in_default.is) ∙ c.get.ensures.value))
    refl

pub returns-in-Err-clause-step : goal.returns-in-Err-clause-step
returns-in-Err-clause-step c =
    let found : trace_named (machine_in c.args.self.now) c.args.name ≡ Some c.in-Some.trace.now.state =
    trace_named-lookup c.args.self.now c.self.inside.traces.entries c.self.view_is c.args.name (Some c.in-Some.trace.now) (sym (ap option_copied c.in-Some.is) ∙ c.get.ensures.value) in
    there_refused (machine_in c.args.self.now) (machine_in c.args.self.now) c.args.name _ c.in-Some.trace.now.state found c.in-Err.refusal _ (inl c.in-Err.ensures) refl

pub returns-clause-step : goal.returns-clause-step
returns-clause-step c =
    let found : trace_named (machine_in c.args.self.now) c.args.name ≡ Some c.in-Some.trace.now.state =
    trace_named-lookup c.args.self.now c.self.inside.traces.entries c.self.view_is c.args.name (Some c.in-Some.trace.now) (sym (ap option_copied c.in-Some.is) ∙ c.get.ensures.value) in
    there_made (machine_in c.args.self.now) _ c.args.name _ c.in-Some.trace.now.state found _ _ c.in_default-check_owner.ensures
    (refl, machine-removed c.args.self.now c.self.inside.traces.entries c.self.view_is c.args.name _ c.shift_remove-closed.ensures.entries)

pub returns-clause-sets : goal.returns-clause-sets
returns-clause-sets c = sets-removed c.args.self.now c.self.inside.traces.entries c.self.view_is c.args.name _ c.shift_remove-closed.ensures.entries
