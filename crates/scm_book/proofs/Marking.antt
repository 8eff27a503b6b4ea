-- Lists of marks of which each is within the later ones.
use Rattle.std.proofs.Common.{ℕ, ◌≡◌, ◌+◌, ◌<◌, ◌≤◌, List, [], ◌∷◌, ◌++◌, length, take, get_or, AllPairs, sym, ap, ◌∙◌, subst, ⊎_elim, arith}
use Rattle.std.proofs.Math.Seq.{get_or-append_seam}
use Rattle.std.proofs.lemmas.Bool.{cases_lt}
use Rattle.std.proofs.lemmas.List.{get_or_append_left, get_or-take, get_or_default, length-take, length_push}
use Rattle.std.proofs.lemmas.List.Quantifiers.{all_pairs_push}
use Rattle.scm_sequences.specs.Sequences.{IsWithin}
use Rattle.scm_sequences.specs.laws.LengthLaws.{IsWithin-reflexive, IsWithin-transitive}

-- the items before the last
pub before_last : (marks : List (List ℕ)) (last : List ℕ) → AllPairs IsWithin (marks ++ last ∷ []) → AllPairs IsWithin marks
before_last marks last all i j d lt in_j =
    subst (λ x. IsWithin x (get_or marks j d)) (get_or_append_left marks (last ∷ []) d i (omega (arith, lt, in_j)))
    (subst (λ x. IsWithin (get_or (marks ++ last ∷ []) i d) x) (get_or_append_left marks (last ∷ []) d j in_j)
    (all i j d lt (omega (arith, in_j, length_push marks last))))

-- each of them is within the last
pub within_last : (marks : List (List ℕ)) (last : List ℕ) → AllPairs IsWithin (marks ++ last ∷ []) → (k : ℕ) (d : List ℕ) → k < length marks → IsWithin (get_or marks k d) last
within_last marks last all k d in_k =
    subst (λ x. IsWithin x last) (get_or_append_left marks (last ∷ []) d k in_k)
    (subst (λ x. IsWithin (get_or (marks ++ last ∷ []) k d) x) (get_or-append_seam marks last [] d)
    (all k (length marks) d in_k (omega (arith, length_push marks last))))

-- the last item grew
pub AllPairs-grown : (marks : List (List ℕ)) (last longer : List ℕ) → AllPairs IsWithin (marks ++ last ∷ []) → IsWithin last longer → AllPairs IsWithin (marks ++ longer ∷ [])
AllPairs-grown marks last longer all within =
    all_pairs_push IsWithin marks longer (before_last marks last all) (λ k d in_k. IsWithin-transitive _ last longer (within_last marks last all k d in_k) within)

-- the last item stands there twice
pub AllPairs-twice : (marks : List (List ℕ)) (last : List ℕ) → AllPairs IsWithin (marks ++ last ∷ []) → AllPairs IsWithin ((marks ++ last ∷ []) ++ last ∷ [])
AllPairs-twice marks last all = all_pairs_push IsWithin (marks ++ last ∷ []) last all each where
  each : (k : ℕ) (d : List ℕ) → k < length (marks ++ last ∷ []) → IsWithin (get_or (marks ++ last ∷ []) k d) last
  each k d in_k =
      ⊎_elim (λ before. subst (λ x. IsWithin x last) (sym (get_or_append_left marks (last ∷ []) d k before)) (within_last marks last all k d before))
      (λ past. let same : k ≡ length marks = omega (arith, in_k, past, length_push marks last) in
      subst (λ x. IsWithin x last) (sym (ap (λ n. get_or (marks ++ last ∷ []) n d) same ∙ get_or-append_seam marks last [] d)) (IsWithin-reflexive last))
      (cases_lt k (length marks))

-- the items up to item m, and that item again
pub AllPairs-back : (marks : List (List ℕ)) (m : ℕ) (e : List ℕ) → AllPairs IsWithin marks → m < length marks → AllPairs IsWithin (take (m + 1) marks ++ get_or marks m e ∷ [])
AllPairs-back marks m e all in_m = all_pairs_push IsWithin (take (m + 1) marks) (get_or marks m e) taken each where
  few : length (take (m + 1) marks) ≤ m + 1
  few = omega (arith, length-take (m + 1) marks)

  taken : AllPairs IsWithin (take (m + 1) marks)
  taken i j d lt in_j =
      let in_marks : j < length marks = omega (arith, in_j, few, in_m) in
      subst (λ x. IsWithin x (get_or (take (m + 1) marks) j d)) (sym (get_or-take (m + 1) marks i d (omega (arith, lt, in_j, few))))
      (subst (λ x. IsWithin (get_or marks i d) x) (sym (get_or-take (m + 1) marks j d (omega (arith, in_j, few)))) (all i j d lt in_marks))

  within_m : (k : ℕ) (d : List ℕ) → k < m + 1 → IsWithin (get_or marks k d) (get_or marks m d)
  within_m k d below =
      ⊎_elim (λ before. all k m d before in_m) (λ past. let same : k ≡ m = omega (arith, below, past) in subst (λ n. IsWithin (get_or marks n d) (get_or marks m d)) (sym same) (IsWithin-reflexive (get_or marks m d))) (cases_lt k m)

  each : (k : ℕ) (d : List ℕ) → k < length (take (m + 1) marks) → IsWithin (get_or (take (m + 1) marks) k d) (get_or marks m e)
  each k d in_k =
      let below : k < m + 1 = omega (arith, in_k, few) in
      subst (λ x. IsWithin (get_or (take (m + 1) marks) k d) x) (get_or_default marks m d e in_m)
      (subst (λ x. IsWithin x (get_or marks m d)) (sym (get_or-take (m + 1) marks k d below)) (within_m k d below))
