use Rattle.std.proofs.Common.{◌≡◌, None, false, is_some, refl, sym, ◌∙◌}
use Rattle.std.specs.Map.{lookup}
use Rattle.scm_cells.specs.CellLists.{name_eq}
use Rattle.scm_book.specs.inner.Sets.{machine_in}
use Rattle.scm_book.specs.Machine.{place_cause}
use Rattle.scm_book.proofs.Answering.{open-no_place, open-done, free-absent}
use Rattle.scm_book.proofs.Entries.{has_trace, machine-inserted, sets-inserted}
use Rattle.scm_book.proofs.traces.Traces.open.Goals as goal

pub returns-in-Some-clause-step : goal.returns-in-Some-clause-step
returns-in-Some-clause-step c =
    open-no_place (machine_in c.args.self.now) (machine_in c.args.self.now) c.args.session c.args.name c.args.procs c.args.budget c.args.cells.now c.in-Some.refusal c.in-Ok.ensures.ok.0 (sym c.in-Some.ensures) refl

pub returns-in-Ok-put-clause-step : goal.returns-in-Ok-put-clause-step
returns-in-Ok-put-clause-step c =
    let free : place_cause (machine_in c.args.self.now) c.args.name ≡ None = sym c.place_refusal.ensures ∙ c.in_default.is in
    open-done (machine_in c.args.self.now) _ c.args.session c.args.name c.args.procs c.args.budget c.args.cells.now c.in-Ok.trace.state c.in-Ok.ensures.ok.0 free c.in-Ok.ensures.ok.1
    (machine-inserted c.args.self.now c.args.self.now refl c.args.name c.in-Ok.trace _ c.in-Ok-put.ensures.put)

pub returns-in-Ok-put-clause-sets : goal.returns-in-Ok-put-clause-sets
returns-in-Ok-put-clause-sets c =
    let free : place_cause (machine_in c.args.self.now) c.args.name ≡ None = sym c.place_refusal.ensures ∙ c.in_default.is in
    let absent : is_some (lookup (name_eq c.args.name) c.args.self.now) ≡ false = sym (has_trace c.args.self.now c.args.self.now refl c.args.name) ∙ free-absent (machine_in c.args.self.now) c.args.name free in
    record {
      set = c.in-Ok.trace.set;
      one = c.in-Ok.ensures.set;
      last = sets-inserted c.args.self.now c.args.self.now refl c.args.name c.in-Ok.trace _ c.in-Ok-put.ensures.put absent;
    }
