-- Only three or four words stand for an access.
use Rattle.std.proofs.Common.{◌≡◌, ◌<◌, ◌≤◌, ℕ, List, [], ◌∷◌, length, map, None, refl, arith}
use Rattle.scm_lowering.specs.Accesses.{access_of_words}

pub access_of_few : {A : Type 0} (text : A → List ℕ) (words : List A) → length words < 3 → access_of_words (map text words) ≡ None
unfolding access_of_words
access_of_few text [] few = refl
access_of_few text (a ∷ []) few = refl
access_of_few text (a ∷ b ∷ []) few = refl
access_of_few text (a ∷ b ∷ c ∷ words) few = absurd (omega arith)

pub access_of_many : {A : Type 0} (text : A → List ℕ) (words : List A) → 5 ≤ length words → access_of_words (map text words) ≡ None
unfolding access_of_words
access_of_many text [] many = absurd (omega arith)
access_of_many text (a ∷ []) many = absurd (omega arith)
access_of_many text (a ∷ b ∷ []) many = absurd (omega arith)
access_of_many text (a ∷ b ∷ c ∷ []) many = absurd (omega arith)
access_of_many text (a ∷ b ∷ c ∷ d ∷ []) many = absurd (omega arith)
access_of_many text (a ∷ b ∷ c ∷ d ∷ e ∷ words) many = refl
