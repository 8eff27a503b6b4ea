use Rattle.std.proofs.Common.{◌∙◌, sym, ap, arith}
use Rattle.scm_sequences.specs.Sequences.{operation}
use Rattle.scm_sequences.specs.laws.SequenceLaws.{operation-cut_lists, operation-cut_lists_past}
use Rattle.scm_sequences.specs.Traces.{Trace}
use Rattle.scm_orders.proofs.cut_trace.CutTrace.operation.Goals as goal

pub returns-then-place-length_of : goal.returns-then-place-length_of
returns-then-place-length_of c =
    c.next.ensures.next
    ∙ sym (operation-cut_lists c.self.inside.sequences.now c.self.inside.lengths.now c.from-p.result c.args.place.at (omega (arith, c.if-place-length_of.true, c.length_of.ensures)))
    ∙ ap (λ (t : Trace). operation t.sequences c.from-p.result c.args.place.at) c.self.view_is ∙ ap (λ p. operation c.args.self.now.sequences p c.args.place.at) c.from-p.ensures

pub returns-else-place-length_of : goal.returns-else-place-length_of
returns-else-place-length_of c =
    sym (operation-cut_lists_past c.self.inside.sequences.now c.self.inside.lengths.now c.from-p.result c.args.place.at (omega (arith, c.if-place-length_of.false, c.length_of.ensures)))
    ∙ ap (λ (t : Trace). operation t.sequences c.from-p.result c.args.place.at) c.self.view_is ∙ ap (λ p. operation c.args.self.now.sequences p c.args.place.at) c.from-p.ensures
