use Rattle.std.proofs.Common.{◌≡◌, None, Some, ap, ◌∙◌, sym, refl, inl}
use Rattle.std.specs.Option.{option_copied_mut}
use Rattle.std.specs.Map.{lookup}
use Rattle.scm_cells.specs.CellLists.{name_eq}
use Rattle.scm_book.specs.Machine.{trace_named}
use Rattle.scm_book.specs.inner.Sets.{machine_in}
use Rattle.scm_book.proofs.Answering.{absent, there_refused, there_done, written}
use Rattle.scm_book.proofs.Entries.{state_of, set_of, trace_named-lookup, set_named-lookup, machine-same, machine-set_value, machine-set_same, sets-same, sets-set_value, sets-set_same}
use Rattle.scm_book.proofs.Leaving.{cuts_set}
use Rattle.scm_book.proofs.traces.Traces.back.Goals as goal
use Rattle.scm_book.proofs.traces.Traces.back.Goals.{in-Ok, in-Err}

pub returns-in_default-clause-step : goal.returns-in_default-clause-step
returns-in_default-clause-step c =
    absent (machine_in c.args.self.now) _ c.args.name _ _
    (trace_named-lookup c.args.self.now c.self.inside.traces.entries c.self.view_is c.args.name None (sym (ap option_copied_mut c.in_default.is) ∙ c.get_mut.ensures.value))
    (machine-same c.args.self.now c.self.inside.traces.entries c.self.view_is c.args.name _ (ap (λ m. m.entries) c.get_mut.follows.holds-at-none))

pub returns-in_default-clause-sets : goal.returns-in_default-clause-sets
returns-in_default-clause-sets c = sets-same c.args.self.now c.self.inside.traces.entries c.self.view_is c.args.name _ (ap (λ m. m.entries) c.get_mut.follows.holds-at-none)

pub returns-clause-step : goal.returns-clause-step
returns-clause-step c =
    let looked : Some c.in-Some.trace.now ≡ lookup (name_eq c.args.name) c.self.inside.traces.entries = sym (ap option_copied_mut c.in-Some.is) ∙ c.get_mut.ensures.value in
    let found : trace_named (machine_in c.args.self.now) c.args.name ≡ Some c.in-Some.trace.now.state =
    trace_named-lookup c.args.self.now c.self.inside.traces.entries c.self.view_is c.args.name (Some c.in-Some.trace.now) looked in
    let new = (c.get_mut.follows.holds c.back.new.self).0 in
    elim c.match-back.branch [
      | in-Ok w ↦ rw w.result-is (there_done (machine_in c.args.self.now) _ c.args.name _ c.in-Some.trace.now.state found _ _ w.in-Ok.ensures.ok.0
          (refl, written (machine_in c.args.self.now) _ c.args.name c.back.new.self.state _ _ (machine-set_value c.args.self.now c.self.inside.traces.entries c.self.view_is c.args.name c.in-Some.trace.now c.back.new.self _ looked new) w.in-Ok.ensures.ok.1))
      | in-Err w ↦ rw w.result-is (there_refused (machine_in c.args.self.now) _ c.args.name _ c.in-Some.trace.now.state found w.in-Err.refusal _ (inl w.in-Err.ensures.err)
          (machine-set_same c.args.self.now c.self.inside.traces.entries c.self.view_is c.args.name c.in-Some.trace.now c.back.new.self _ looked new (ap state_of w.in-Err.ensures.unchanged)))
    ]

pub returns-clause-sets : goal.returns-clause-sets
returns-clause-sets c =
    let looked : Some c.in-Some.trace.now ≡ lookup (name_eq c.args.name) c.self.inside.traces.entries = sym (ap option_copied_mut c.in-Some.is) ∙ c.get_mut.ensures.value in
    let new = (c.get_mut.follows.holds c.back.new.self).0 in
    elim c.match-back.branch [
      | in-Ok w ↦ rw w.result-is (cuts_set (machine_in c.args.self.now) _ _ c.args.name c.args.mark c.in-Some.trace.now.state c.in-Some.trace.now.set c.back.new.self.set
          (trace_named-lookup c.args.self.now c.self.inside.traces.entries c.self.view_is c.args.name (Some c.in-Some.trace.now) looked)
          (set_named-lookup c.args.self.now c.self.inside.traces.entries c.self.view_is c.args.name (Some c.in-Some.trace.now) looked) w.in-Ok.ensures.set
          (sets-set_value c.args.self.now c.self.inside.traces.entries c.self.view_is c.args.name c.in-Some.trace.now c.back.new.self _ looked new))
      | in-Err w ↦ rw w.result-is (sets-set_same c.args.self.now c.self.inside.traces.entries c.self.view_is c.args.name c.in-Some.trace.now c.back.new.self _ looked new (ap set_of w.in-Err.ensures.unchanged))
    ]
