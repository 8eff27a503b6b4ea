use Rattle.std.proofs.Common.{◌≡◌, Some, IfSome, ap, ◌∙◌, sym, subst}
use Rattle.std.specs.Option.{option_copied_mut}
use Rattle.std.specs.Map.{lookup}
use Rattle.scm_cells.specs.CellLists.{name_eq}
use Rattle.scm_book.specs.Machine.{Machine, InTrace}
use Rattle.scm_book.specs.inner.Plans.{IsExplained, reply_in, loan_in}
use Rattle.scm_book.specs.inner.Sets.{machine_in}
use Rattle.scm_book.proofs.Entries.{trace_named-lookup, set_named-lookup, machine-same, machine-set_same, sets-same, sets-set_value}
use Rattle.scm_book.proofs.LendingLaws.{lent_of}
use Rattle.scm_book.proofs.Planning.{known_of}
use Rattle.scm_book.proofs.traces.Traces.plan.Goals as goal

pub returns-in_default-clause-machine : goal.returns-in_default-clause-machine
returns-in_default-clause-machine c = machine-same c.args.self.now c.self.inside.traces.entries c.self.view_is c.args.name.now _ (ap (λ m. m.entries) c.get_mut.follows.holds-at-none)

pub returns-in_default-clause-lends : goal.returns-in_default-clause-lends
returns-in_default-clause-lends c = sets-same c.args.self.now c.self.inside.traces.entries c.self.view_is c.args.name.now _ (ap (λ m. m.entries) c.get_mut.follows.holds-at-none)

pub returns-clause-machine : goal.returns-clause-machine
returns-clause-machine c =
    let looked : Some c.in-Some.trace.now ≡ lookup (name_eq c.args.name.now) c.self.inside.traces.entries = sym (ap option_copied_mut c.in-Some.is) ∙ c.get_mut.ensures.value in
    machine-set_same c.args.self.now c.self.inside.traces.entries c.self.view_is c.args.name.now c.in-Some.trace.now c.plan.new.self _ looked (c.get_mut.follows.holds c.plan.new.self).0 c.plan.ensures.state

pub returns-clause-lends : goal.returns-clause-lends
returns-clause-lends c =
    let looked : Some c.in-Some.trace.now ≡ lookup (name_eq c.args.name.now) c.self.inside.traces.entries = sym (ap option_copied_mut c.in-Some.is) ∙ c.get_mut.ensures.value in
    lent_of (machine_in c.args.self.now) _ _ c.args.name.now c.args.mark c.in-Some.trace.now.state c.in-Some.trace.now.set c.plan.new.self.set (loan_in c.plan.result)
    (trace_named-lookup c.args.self.now c.self.inside.traces.entries c.self.view_is c.args.name.now (Some c.in-Some.trace.now) looked)
    (set_named-lookup c.args.self.now c.self.inside.traces.entries c.self.view_is c.args.name.now (Some c.in-Some.trace.now) looked)
    c.plan.ensures.lends
    (sets-set_value c.args.self.now c.self.inside.traces.entries c.self.view_is c.args.name.now c.in-Some.trace.now c.plan.new.self _ looked (c.get_mut.follows.holds c.plan.new.self).0)

pub returns-clause-known : goal.returns-clause-known
returns-clause-known c =
    let looked : Some c.in-Some.trace.now ≡ lookup (name_eq c.args.name.now) c.self.inside.traces.entries = sym (ap option_copied_mut c.in-Some.is) ∙ c.get_mut.ensures.value in
    subst (λ (m : Machine). IfSome (reply_in c.plan.result) (λ reply. InTrace m c.args.name.now (λ state. IsExplained state c.args.mark reply)))
    (sym (machine-set_same c.args.self.now c.self.inside.traces.entries c.self.view_is c.args.name.now c.in-Some.trace.now c.plan.new.self _ looked (c.get_mut.follows.holds c.plan.new.self).0 c.plan.ensures.state))
    (known_of (machine_in c.args.self.now) c.args.name.now c.args.mark c.in-Some.trace.now.state (reply_in c.plan.result)
    (trace_named-lookup c.args.self.now c.self.inside.traces.entries c.self.view_is c.args.name.now (Some c.in-Some.trace.now) looked) c.plan.ensures.known)
