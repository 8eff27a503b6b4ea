use Rattle.std.proofs.Common.{rules}
use Rattle.scm_book.proofs.LendingLaws.{take-initials}
use Rattle.scm_book.proofs.open_trace.lending.has_initials.Goals as goal

pub loop-c-preserved : goal.loop-c-preserved
loop-c-preserved c = take-initials c.args.cells.now c.args.initials.now c.loop-c.c c.initial.result (search rules) (search rules) c.loop-c.invariant c.initial.ensures c.if-ne.ensures
