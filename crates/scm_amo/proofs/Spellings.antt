-- Words that are a name and an ordering.
use Rattle.std.proofs.Common.{◌≡◌, ◌≢◌, ℕ, Bool, true, false, List, [], ◌∷◌, ◌++◌, arith, refl}
use Rattle.std.specs.List.{list_any}
use Rattle.std.specs.Str.{bytes_eq}
use Rattle.std.proofs.lemmas.Slice.Eq.{bytes_eq-Decides}
use Rattle.scm_amo.specs.Amos.{is_spelled, orderings}

-- what stands after the name decides
pub bytes_eq-after : (name xs ys : List ℕ) → bytes_eq (name ++ xs) (name ++ ys) ≡ bytes_eq xs ys
bytes_eq-after [] xs ys = refl
bytes_eq-after (c ∷ name) xs ys = grind (arith, bytes_eq-after name xs ys)

pub is_spelled-after : (name word rest : List ℕ) → word ≡ name ++ rest → is_spelled name word ≡ list_any (λ ordering. bytes_eq rest ordering) orderings
unfolding is_spelled
is_spelled-after name word rest e = rw (e, bytes_eq-after, bytes_eq-after, bytes_eq-after, bytes_eq-after) refl

-- no word that begins in another way
differs : (name word ordering : List ℕ) → ((rest : List ℕ) → word ≢ name ++ rest) → bytes_eq word (name ++ ordering) ≡ false
differs name word ordering none =
    let go : (b : Bool) → (b ≡ true → ⊥) → b ≡ false = λ b. elim b as (λ v. (v ≡ true → ⊥) → v ≡ false) [ true ↦ λ h. absurd (h refl) | false ↦ λ _. refl ] in
    go _ (λ same. none ordering ((bytes_eq-Decides word (name ++ ordering)).0 same))

pub is_spelled-other : (name word : List ℕ) → ((rest : List ℕ) → word ≢ name ++ rest) → is_spelled name word ≡ false
unfolding is_spelled
is_spelled-other name word none =
    let first = differs name word in
    rw (first _ none, first _ none, first _ none, first _ none) refl
