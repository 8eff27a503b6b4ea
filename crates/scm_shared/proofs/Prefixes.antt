-- Beginnings of a history.
use Rattle.std.proofs.Common.{◌≡◌, ◌⊎◌, List, [], ◌∷◌, ◌++◌, refl, sym, ap, ◌∙◌, subst, inl, inr, ⊎_elim, append_assoc, append-nil}
use mathlib.Core.List.{IsPrefix}

module _ {A : Type 0} where
  pub prefix_whole : (xs : List A) → IsPrefix xs xs
  prefix_whole xs = ([], append-nil xs)

  pub prefix_nothing : (xs : List A) → IsPrefix [] xs
  prefix_nothing xs = (xs, refl)

  pub prefix_longer : (xs ys more : List A) → IsPrefix xs ys → IsPrefix xs (ys ++ more)
  prefix_longer xs ys more p = (p.0 ++ more, sym (append_assoc xs p.0 more) ∙ ap (λ (l : List A). l ++ more) p.1)

  prefix_cons : (x : A) (xs ys : List A) → IsPrefix xs ys → IsPrefix (x ∷ xs) (x ∷ ys)
  prefix_cons x xs ys p = (p.0, ap (λ (l : List A). x ∷ l) p.1)

  either_first : (xs ys zs rest more : List A) → xs ++ rest ≡ zs → ys ++ more ≡ zs → IsPrefix xs ys ⊎ IsPrefix ys xs
  either_first [] ys zs rest more p q = inl (ys, refl)
  either_first (x ∷ xs) [] zs rest more p q = inr (x ∷ xs, refl)
  either_first (x ∷ xs) (y ∷ ys) [] rest more p q = absurd (cc)
  either_first (x ∷ xs) (y ∷ ys) (z ∷ zs) rest more p q =
      let same : x ≡ y = cc in
      ⊎_elim
      (λ (t : IsPrefix xs ys). inl (subst (λ w. IsPrefix (x ∷ xs) (w ∷ ys)) same (prefix_cons x xs ys t)))
      (λ (t : IsPrefix ys xs). inr (subst (λ w. IsPrefix (w ∷ ys) (x ∷ xs)) same (prefix_cons x ys xs t)))
      (let p' : xs ++ rest ≡ zs = cc in let q' : ys ++ more ≡ zs = cc in either_first xs ys zs rest more p' q')

  -- of two beginnings of one history, one is a beginning of the other
  pub prefix_either : (xs ys zs : List A) → IsPrefix xs zs → IsPrefix ys zs → IsPrefix xs ys ⊎ IsPrefix ys xs
  prefix_either xs ys zs p q = either_first xs ys zs p.0 q.0 p.1 q.1
