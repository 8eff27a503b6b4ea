use Rattle.std.proofs.Common.{◌≡◌, None, Some, ap, ◌∙◌, sym, refl}
use Rattle.std.specs.Option.{option_copied}
use Rattle.scm_book.specs.Machine.{trace_named}
use Rattle.scm_book.specs.inner.Sets.{machine_in}
use Rattle.scm_book.proofs.Answering.{absent, there_refused, there_done}
use Rattle.scm_book.proofs.Entries.{trace_named-lookup}
use Rattle.scm_book.proofs.traces.Traces.cycle.Goals as goal
use Rattle.scm_book.proofs.traces.Traces.cycle.Goals.{in-Ok, in-Err}

pub returns-in_default-clause-step : goal.returns-in_default-clause-step
returns-in_default-clause-step c =
    absent (machine_in c.args.self.now) (machine_in c.args.self.now) c.args.name _ _
    (trace_named-lookup c.args.self.now c.self.inside.traces.entries c.self.view_is c.args.name None (sym (ap option_copied c.in_default.is) ∙ c.get.ensures.value))
    refl

pub returns-clause-step : goal.returns-clause-step
returns-clause-step c =
    let found : trace_named (machine_in c.args.self.now) c.args.name ≡ Some c.in-Some.trace.now.state =
    trace_named-lookup c.args.self.now c.self.inside.traces.entries c.self.view_is c.args.name (Some c.in-Some.trace.now) (sym (ap option_copied c.in-Some.is) ∙ c.get.ensures.value) in
    elim c.match-cycle.branch [
      | in-Ok w ↦ rw w.result-is (there_done (machine_in c.args.self.now) (machine_in c.args.self.now) c.args.name _ c.in-Some.trace.now.state found _ _ w.in-Ok.ensures.ok.0 (w.in-Ok.ensures.ok.1, refl))
      | in-Err w ↦ rw w.result-is (there_refused (machine_in c.args.self.now) (machine_in c.args.self.now) c.args.name _ c.in-Some.trace.now.state found w.in-Err.refusal _ w.in-Err.ensures.err refl)
    ]
