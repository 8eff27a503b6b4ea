use Rattle.std.proofs.Common.{◌≡◌, ◌∙◌, min, length, slice_index, ap, arith}
use Rattle.scm_sequences.specs.Sequences.{operations, cut_lists}
use Rattle.scm_sequences.specs.laws.SequenceLaws.{length-operations_cut}
use Rattle.scm_sequences.specs.Traces.{Trace}
use Rattle.scm_orders.proofs.cut_trace.CutTrace.count.Goals as goal

pub returns-clause-count : goal.returns-clause-count
returns-clause-count c =
    let cut : length (operations (cut_lists c.self.inside.sequences.now c.self.inside.lengths.now) c.args.p) ≡ min (slice_index c.self.inside.lengths.now c.args.p) (length (operations c.self.inside.sequences.now c.args.p)) =
    length-operations_cut c.self.inside.sequences.now c.self.inside.lengths.now c.args.p in
    let counted : c.min.result ≡ length (operations (cut_lists c.self.inside.sequences.now c.self.inside.lengths.now) c.args.p) = omega (arith, cut, c.min.ensures, c.count.ensures.count, c.length_of.ensures) in
    counted ∙ ap (λ (t : Trace). length (operations t.sequences c.args.p)) c.self.view_is
