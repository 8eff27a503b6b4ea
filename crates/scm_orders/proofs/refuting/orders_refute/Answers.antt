use Rattle.std.proofs.Common.{◌↔◌, IsTrue, subst}
use Rattle.scm_sequences.specs.Traces.{trace_of, cut_to}
use Rattle.scm_orders.specs.Refuting.{OrdersRefute}
use Rattle.scm_orders.proofs.RefutingLaws.{none_left}
use Rattle.scm_orders.proofs.refuting.orders_refute.Goals as goal

pub returns-clause-none : goal.returns-clause-none
returns-clause-none c =
    let exact : IsTrue c.refute.result ↔ OrdersRefute (cut_to (trace_of c.args.initials.now c.args.sequences.now) c.args.lengths.now) c.args.derivation.now.lines.items c.args.derivation.now.hints.items =
    subst (λ t. IsTrue c.refute.result ↔ OrdersRefute t c.args.derivation.now.lines.items c.args.derivation.now.hints.items) c.new-trace.ensures
    (subst (λ lines. IsTrue c.refute.result ↔ OrdersRefute c.new-trace.result lines c.args.derivation.now.hints.items) c.deref.ensures.value
    (subst (λ hints. IsTrue c.refute.result ↔ OrdersRefute c.new-trace.result c.deref.result.now hints) c.deref-2.ensures.value c.refute.ensures)) in
    λ yes. none_left (cut_to (trace_of c.args.initials.now c.args.sequences.now) c.args.lengths.now) c.args.derivation.now.lines.items c.args.derivation.now.hints.items (exact.0 yes)
