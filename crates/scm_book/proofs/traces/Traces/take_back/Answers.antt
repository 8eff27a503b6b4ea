use Rattle.std.proofs.Common.{◌≡◌, None, Some, ap, ◌∙◌, sym}
use Rattle.std.specs.Option.{option_copied_mut}
use Rattle.std.specs.Map.{lookup}
use Rattle.scm_cells.specs.CellLists.{name_eq}
use Rattle.scm_book.specs.inner.Loans.{Loaned}
use Rattle.scm_book.specs.inner.Sets.{machine_in}
use Rattle.scm_book.proofs.Entries.{trace_named-lookup, set_named-lookup, machine-set_same, sets-same, sets-set_value}
use Rattle.scm_book.proofs.LendingLaws.{taken_none, taken_some}
use Rattle.scm_book.proofs.traces.Traces.take_back.Goals as goal

pub returns-in_default-clause-takes : goal.returns-in_default-clause-takes
returns-in_default-clause-takes c =
    taken_none (machine_in c.args.self.now) _ _ c.loan.inside.name c.args.loan (ap (λ (q : Loaned). q.name) c.loan.view_is)
    (trace_named-lookup c.args.self.now c.self.inside.traces.entries c.self.view_is c.loan.inside.name None (sym (ap option_copied_mut c.in_default.is) ∙ c.get_mut.ensures.value))
    (sets-same c.args.self.now c.self.inside.traces.entries c.self.view_is c.loan.inside.name _ (ap (λ m. m.entries) c.get_mut.follows.holds-at-none))

pub returns-clause-machine : goal.returns-clause-machine
returns-clause-machine c =
    let looked : Some c.in-Some.trace.now ≡ lookup (name_eq c.loan.inside.name) c.self.inside.traces.entries = sym (ap option_copied_mut c.in-Some.is) ∙ c.get_mut.ensures.value in
    machine-set_same c.args.self.now c.self.inside.traces.entries c.self.view_is c.loan.inside.name c.in-Some.trace.now c.take_back.new.self _ looked (c.get_mut.follows.holds c.take_back.new.self).0 c.take_back.ensures.state

pub returns-clause-takes : goal.returns-clause-takes
returns-clause-takes c =
    let looked : Some c.in-Some.trace.now ≡ lookup (name_eq c.loan.inside.name) c.self.inside.traces.entries = sym (ap option_copied_mut c.in-Some.is) ∙ c.get_mut.ensures.value in
    taken_some (machine_in c.args.self.now) _ _ c.loan.inside.name c.args.loan (ap (λ (q : Loaned). q.name) c.loan.view_is) c.in-Some.trace.now.state c.in-Some.trace.now.set c.take_back.new.self.set
    (trace_named-lookup c.args.self.now c.self.inside.traces.entries c.self.view_is c.loan.inside.name (Some c.in-Some.trace.now) looked)
    (set_named-lookup c.args.self.now c.self.inside.traces.entries c.self.view_is c.loan.inside.name (Some c.in-Some.trace.now) looked)
    c.take_back.ensures.takes
    (sets-set_value c.args.self.now c.self.inside.traces.entries c.self.view_is c.loan.inside.name c.in-Some.trace.now c.take_back.new.self _ looked (c.get_mut.follows.holds c.take_back.new.self).0)
