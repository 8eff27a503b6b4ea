use Rattle.scm_book.proofs.CopyLaws.{IsCopiedTo}
use Rattle.scm_book.proofs.copying.copy_of_sequences.Given as goal

abbrev pub invariant-loop-p : goal.invariant-loop-p
invariant-loop-p l = IsCopiedTo l.sequences l.p l.copy
