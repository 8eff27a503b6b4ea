use Rattle.std.proofs.Common.{take}
use Rattle.scm_book.specs.inner.Loans.{HasPushed}
use Rattle.scm_book.proofs.copying.push_all.Given as goal

abbrev pub invariant-loop-op : goal.invariant-loop-op
invariant-loop-op l = HasPushed l.fn.sequences l.p (take l.op-index l.list) l.sequences
