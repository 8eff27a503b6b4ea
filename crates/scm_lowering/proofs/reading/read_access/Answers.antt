-- Fewer than three words, and more than four, stand for nothing.
use Rattle.std.proofs.Common.{ap, ok_or, sym, rules}
use Rattle.scm_sequences.specs.declared.refusal.Refusal.TheVariants.{BadLine}
use Rattle.scm_lowering.proofs.WordCounts.{access_of_few, access_of_many}
use Rattle.scm_lowering.proofs.reading.read_access.Goals as goal
use Rattle.scm_lowering.proofs.reading.read_access.Goals.{in_default-via-then-words-lt3, in_default-via-else-words-lt3+else-words-lt4+else-words-lt5}

pub returns-in_default : goal.returns-in_default
returns-in_default c =
    elim c.in_default.branch [
      | in_default-via-then-words-lt3 w ↦
          ap (λ found. ok_or found BadLine) (sym (access_of_few (λ word. word.now) c.args.words.now (search rules)))
      | in_default-via-else-words-lt3+else-words-lt4+else-words-lt5 w ↦
          ap (λ found. ok_or found BadLine) (sym (access_of_many (λ word. word.now) c.args.words.now (search rules)))
    ]
