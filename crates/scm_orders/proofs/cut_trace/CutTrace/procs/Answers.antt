use Rattle.std.proofs.Common.{◌∙◌, length, sym, ap}
use Rattle.scm_sequences.specs.laws.SequenceLaws.{length-cut_lists}
use Rattle.scm_sequences.specs.Traces.{Trace}
use Rattle.scm_orders.proofs.cut_trace.CutTrace.procs.Goals as goal

pub returns-clause-procs : goal.returns-clause-procs
returns-clause-procs c =
    c.procs.ensures.procs ∙ sym (length-cut_lists c.self.inside.sequences.now c.self.inside.lengths.now) ∙ ap (λ (t : Trace). length t.sequences) c.self.view_is
