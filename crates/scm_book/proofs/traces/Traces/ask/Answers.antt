use Rattle.std.proofs.Common.{◌≡◌, None, Some, ap, ◌∙◌, sym, refl}
use Rattle.std.specs.Option.{option_copied_mut}
use Rattle.std.specs.Map.{lookup}
use Rattle.scm_cells.specs.CellLists.{name_eq}
use Rattle.scm_book.specs.Machine.{trace_named, answer_data}
use Rattle.scm_book.specs.inner.Sets.{machine_in}
use Rattle.scm_book.proofs.Answering.{absent, there_refused, there_done}
use Rattle.scm_book.proofs.Entries.{trace_named-lookup, set_named-lookup, machine-same, machine-set_same, sets-same, sets-set_value}
use Rattle.scm_book.proofs.Leaving.{searches_answered, searches_none, room_there}
use Rattle.scm_book.proofs.traces.Traces.ask.Goals as goal
use Rattle.scm_book.proofs.traces.Traces.ask.Goals.{in-Ok, in-Err}

pub returns-in_default-clause-step : goal.returns-in_default-clause-step
returns-in_default-clause-step c =
    absent (machine_in c.args.self.now) _ c.args.name _ _
    (trace_named-lookup c.args.self.now c.self.inside.traces.entries c.self.view_is c.args.name None (sym (ap option_copied_mut c.in_default.is) ∙ c.get_mut.ensures.value))
    (machine-same c.args.self.now c.self.inside.traces.entries c.self.view_is c.args.name _ (ap (λ m. m.entries) c.get_mut.follows.holds-at-none))

pub returns-in_default-clause-sets : goal.returns-in_default-clause-sets
returns-in_default-clause-sets c =
    searches_none (machine_in c.args.self.now) _ _ c.args.name c.args.mark _ _ _
    (trace_named-lookup c.args.self.now c.self.inside.traces.entries c.self.view_is c.args.name None (sym (ap option_copied_mut c.in_default.is) ∙ c.get_mut.ensures.value))
    (sets-same c.args.self.now c.self.inside.traces.entries c.self.view_is c.args.name _ (ap (λ m. m.entries) c.get_mut.follows.holds-at-none)) refl

pub returns-clause-step : goal.returns-clause-step
returns-clause-step c =
    let looked : Some c.in-Some.trace.now ≡ lookup (name_eq c.args.name) c.self.inside.traces.entries = sym (ap option_copied_mut c.in-Some.is) ∙ c.get_mut.ensures.value in
    let found : trace_named (machine_in c.args.self.now) c.args.name ≡ Some c.in-Some.trace.now.state =
    trace_named-lookup c.args.self.now c.self.inside.traces.entries c.self.view_is c.args.name (Some c.in-Some.trace.now) looked in
    let new = (c.get_mut.follows.holds c.ask.new.self).0 in
    elim c.match-ask.branch [
      | in-Ok w ↦ rw w.result-is (there_done (machine_in c.args.self.now) _ c.args.name _ c.in-Some.trace.now.state found _ _ w.in-Ok.ensures.ok.0 (w.in-Ok.ensures.ok.1, machine-set_same c.args.self.now c.self.inside.traces.entries c.self.view_is c.args.name c.in-Some.trace.now c.ask.new.self _ looked new c.ask.ensures.same))
      | in-Err w ↦ rw w.result-is (there_refused (machine_in c.args.self.now) _ c.args.name _ c.in-Some.trace.now.state found w.in-Err.refusal _ w.in-Err.ensures.err
          (machine-set_same c.args.self.now c.self.inside.traces.entries c.self.view_is c.args.name c.in-Some.trace.now c.ask.new.self _ looked new c.ask.ensures.same))
    ]

pub returns-clause-sets : goal.returns-clause-sets
returns-clause-sets c =
    let looked : Some c.in-Some.trace.now ≡ lookup (name_eq c.args.name) c.self.inside.traces.entries = sym (ap option_copied_mut c.in-Some.is) ∙ c.get_mut.ensures.value in
    let new = (c.get_mut.follows.holds c.ask.new.self).0 in
    elim c.match-ask.branch [
      | in-Ok w ↦ rw w.result-is (searches_answered (machine_in c.args.self.now) _ _ c.args.name c.args.mark _ _ _ (answer_data c.ask.result) (ap answer_data w.in-Ok.is) c.in-Some.trace.now.state c.in-Some.trace.now.set c.ask.new.self.set
          (trace_named-lookup c.args.self.now c.self.inside.traces.entries c.self.view_is c.args.name (Some c.in-Some.trace.now) looked)
          (set_named-lookup c.args.self.now c.self.inside.traces.entries c.self.view_is c.args.name (Some c.in-Some.trace.now) looked) c.ask.ensures.set
          (sets-set_value c.args.self.now c.self.inside.traces.entries c.self.view_is c.args.name c.in-Some.trace.now c.ask.new.self _ looked new))
      | in-Err w ↦ rw w.result-is (searches_answered (machine_in c.args.self.now) _ _ c.args.name c.args.mark _ _ _ (answer_data c.ask.result) (ap answer_data w.in-Err.is) c.in-Some.trace.now.state c.in-Some.trace.now.set c.ask.new.self.set
          (trace_named-lookup c.args.self.now c.self.inside.traces.entries c.self.view_is c.args.name (Some c.in-Some.trace.now) looked)
          (set_named-lookup c.args.self.now c.self.inside.traces.entries c.self.view_is c.args.name (Some c.in-Some.trace.now) looked) c.ask.ensures.set
          (sets-set_value c.args.self.now c.self.inside.traces.entries c.self.view_is c.args.name c.in-Some.trace.now c.ask.new.self _ looked new))
    ]

pub ask-requires : goal.ask-requires
ask-requires c =
    let found : trace_named (machine_in c.args.self.now) c.args.name ≡ Some c.in-Some.trace.now.state =
    trace_named-lookup c.args.self.now c.self.inside.traces.entries c.self.view_is c.args.name (Some c.in-Some.trace.now) (sym (ap option_copied_mut c.in-Some.is) ∙ c.get_mut.ensures.value) in
    record { room = room_there (machine_in c.args.self.now) c.args.name c.in-Some.trace.now.state found c.args.steps.now c.requires.room }
