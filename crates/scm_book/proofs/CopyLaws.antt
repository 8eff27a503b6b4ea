-- Copies that are made one by one.
use Rattle.std.proofs.Common.{ℕ, ◌≡◌, ◌<◌, ◌≤◌, List, [], length, arith}
use Rattle.std.proofs.lemmas.List.{ext_get_or}
use Rattle.scm_sequences.specs.declared.op.Op.{Op}
use Rattle.scm_sequences.specs.Sequences.{operations}

pub record IsCopiedTo (sequences : List (List Op)) (p : ℕ) (copy : List (List Op)) : Type 0 where
  pub as_many : length copy ≡ length sequences
  pub done : (k : ℕ) → k < p → operations copy k ≡ operations sequences k
  pub left : (k : ℕ) → p ≤ k → operations copy k ≡ []

pub IsCopiedTo-all : (sequences copy : List (List Op)) (p : ℕ) → length sequences ≤ p → IsCopiedTo sequences p copy → copy ≡ sequences
IsCopiedTo-all sequences copy p all copied =
    ext_get_or [] copy sequences copied.as_many (λ k h. copied.done k (omega (arith, h, copied.as_many, all)))
