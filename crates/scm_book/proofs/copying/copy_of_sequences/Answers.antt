use Rattle.std.proofs.Common.{arith}
use Rattle.scm_book.proofs.CopyLaws.{IsCopiedTo-all}
use Rattle.scm_book.proofs.copying.copy_of_sequences.Goals as goal

pub returns : goal.returns
returns c = IsCopiedTo-all c.args.sequences.now c.loop-p.copy c.loop-p.p (omega (arith, c.procs-p-end.ensures.procs, c.loop-p-test.false)) c.loop-p.invariant
