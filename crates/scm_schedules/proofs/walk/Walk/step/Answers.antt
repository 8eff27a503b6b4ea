use Rattle.std.proofs.Common.{length, slice_index, sym, ◌∙◌}
use Rattle.scm_sequences.specs.Sequences.{cut_lists}
use Rattle.scm_sequences.specs.laws.SequenceLaws.{NamesCellsBelow-operation, NamesCellsBelow-cut_lists}
use Rattle.scm_schedules.proofs.walk.Walk.step.Goals as goal

pub pass-requires-clause-cell : goal.pass-requires-clause-cell
pass-requires-clause-cell c =
    let cells = length c.args.self.now.contents in
    NamesCellsBelow-operation cells (cut_lists c.args.sequences.now c.args.lengths.now) c.args.p (slice_index c.args.self.now.counts c.args.p) c.in-Some.op
    (NamesCellsBelow-cut_lists cells c.args.sequences.now c.args.lengths.now c.requires.cells)
    (sym c.next.ensures.next ∙ c.in-Some.is)
