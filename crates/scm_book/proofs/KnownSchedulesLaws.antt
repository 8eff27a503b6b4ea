-- The schedule that is kept for proposals is no longer than its trace.
use Rattle.std.proofs.Common.{ℕ, ◌≡◌, ◌≤◌, max, suc, List, [], ◌∷◌, length, sum, slice_index, None, Result, Ok, Err, OnOk, OnErr, sym, subst, arith}
use Rattle.std.proofs.lemmas.List.Sums.{sum_by-cons}
use Rattle.scm_sequences.specs.declared.op.Op.{Op}
use Rattle.scm_sequences.specs.declared.refusal.Refusal.{Refusal}
use Rattle.scm_sequences.specs.Sequences.{IsWithin, push_refusal, pushed, lengths_of, cut_lists}
use Rattle.scm_sequences.specs.laws.SequenceLaws.{lengths_of-cut_lists, push_refusal-none}
use Rattle.scm_sequences.specs.laws.LengthLaws.{IsWithin-pushed}

-- lengths within others have no greater sum
pub sum-within : (a b : List ℕ) → IsWithin a b → sum a ≤ sum b
sum-within a b within = go a b within.procs within.none_greater where
  go : (xs ys : List ℕ) → length xs ≡ length ys → ((p : ℕ) → slice_index xs p ≤ slice_index ys p) → sum xs ≤ sum ys
  go [] ys as_many each = omega arith
  go (x ∷ xs) [] as_many each = absurd (omega (arith, as_many))
  go (x ∷ xs) (y ∷ ys) as_many each =
      let first : x ≤ y = each 0 in let rest : sum xs ≤ sum ys = go xs ys (omega (arith, as_many)) (λ p. each (suc p)) in omega (arith, first, rest, sum_by-cons (λ (n : ℕ). n) x xs, sum_by-cons (λ (n : ℕ). n) y ys)

-- after a push, whether it was refused or not
pub sum-push : (sequences : List (List Op)) (p n : ℕ) (op : Op) (result : Result (Unit {0}) Refusal) (after : List (List Op)) → n ≤ sum (lengths_of sequences)
    → OnOk result ((push_refusal sequences p ≡ None) × (after ≡ pushed sequences p op)) → OnErr result (after ≡ sequences) → n ≤ sum (lengths_of after)
sum-push sequences p n op (Ok done) after few ok err =
    subst (λ s. n ≤ sum (lengths_of s)) (sym ok.1)
    (let more : sum (lengths_of sequences) ≤ sum (lengths_of (pushed sequences p op)) = sum-within (lengths_of sequences) (lengths_of (pushed sequences p op)) (IsWithin-pushed sequences p op (push_refusal-none sequences p ok.0).0) in omega (arith, few, more))
sum-push sequences p n op (Err refusal) after few ok err = subst (λ s. n ≤ sum (lengths_of s)) (sym err) few

-- after a cut
pub sum-cut : (sequences : List (List Op)) (lengths : List ℕ) (n : ℕ) (after : List (List Op)) → IsWithin lengths (lengths_of sequences) → n ≤ sum lengths → after ≡ cut_lists sequences lengths → n ≤ sum (lengths_of after)
sum-cut sequences lengths n after within few is =
    subst (λ s. n ≤ sum (lengths_of s)) (sym is) (subst (λ l. n ≤ sum l) (sym (lengths_of-cut_lists sequences lengths within)) few)

-- after a schedule was kept of lengths within those of the trace
pub sum-kept : (before after total : ℕ) (lengths present : List ℕ) → before ≤ total → after ≤ max before (sum lengths) → IsWithin lengths present → sum present ≡ total → after ≤ total
sum-kept before after total lengths present few kept within is = omega (arith, few, kept, sum-within lengths present within, is)
