-- Sums over seats, of which one is changed; and how often a number stands among passes.
use Rattle.std.proofs.Common.{◌≡◌, ◌≢◌, ℕ, zero, suc, ◌+◌, ◌≤◌, List, [], ◌∷◌, ◌++◌, set, cond, ◌==◌, refl, sym, ap, arith}
use Rattle.std.specs.Prelude.{count_by}
use Rattle.std.specs.List.{sum_by}
use Rattle.std.proofs.lemmas.Bool.{eq-eqb, ne_eqb}
use Rattle.std.proofs.lemmas.List.Sums.{sum_by-cons, sum_by-append}
use mathlib.Core.Option.{some, some-injective, some-ne-none}
use lib.ListN.{get_elem?}
use Rattle.scm_shared.specs.Passes.{Known}

module _ {A : Type 0} (f : A → ℕ) where
  -- the sum loses the old value of a seat and gains the new one
  pub sum_by-set : (views : List A) (place : ℕ) (old new : A) → get_elem? views place ≡ some old
      → sum_by f (set views place new) + f old ≡ sum_by f views + f new
  sum_by-set [] place old new at = absurd (some-ne-none old (sym at))
  sum_by-set (x ∷ xs) zero old new at =
      let e : f x ≡ f old = ap f (some-injective x old at) in
      omega (arith, sum_by-cons f x xs, sum_by-cons f new xs, e)
  sum_by-set (x ∷ xs) (suc place) old new at =
      omega (arith, sum_by-cons f x xs, sum_by-cons f x (set xs place new), sum_by-set xs place old new at)

  pub at_most_sum_by : (views : List A) (place : ℕ) (one : A) → get_elem? views place ≡ some one → f one ≤ sum_by f views
  at_most_sum_by [] place one at = absurd (some-ne-none one (sym at))
  at_most_sum_by (x ∷ xs) zero one at =
      let e : f x ≡ f one = ap f (some-injective x one at) in
      omega (arith, sum_by-cons f x xs, e)
  at_most_sum_by (x ∷ xs) (suc place) one at = omega (arith, sum_by-cons f x xs, at_most_sum_by xs place one at)

  -- two seats are two terms of the sum
  pub two_at_most_sum_by : (views : List A) (place other : ℕ) (one two : A) → other ≢ place
      → get_elem? views place ≡ some one → get_elem? views other ≡ some two → f one + f two ≤ sum_by f views
  two_at_most_sum_by [] place other one two apart at there = absurd (some-ne-none one (sym at))
  two_at_most_sum_by (x ∷ xs) zero zero one two apart at there = absurd (apart refl)
  two_at_most_sum_by (x ∷ xs) zero (suc other) one two apart at there =
      let e : f x ≡ f one = ap f (some-injective x one at) in
      omega (arith, sum_by-cons f x xs, e, at_most_sum_by xs other two there)
  two_at_most_sum_by (x ∷ xs) (suc place) zero one two apart at there =
      let e : f x ≡ f two = ap f (some-injective x two there) in
      omega (arith, sum_by-cons f x xs, e, at_most_sum_by xs place one at)
  two_at_most_sum_by (x ∷ xs) (suc place) (suc other) one two apart at there =
      omega (arith, sum_by-cons f x xs, two_at_most_sum_by xs place other one two (λ e. apart (ap suc e)) at there)

-- how often the number stands among the passes
abbrev pub times : ℕ → List Known → ℕ
times number passes = count_by (λ (pass : Known). pass.number == number) passes

abbrev pub mark : ℕ → ℕ → ℕ
mark own number = cond (own == number) 1 0

pub mark-same : (own number : ℕ) → own ≡ number → mark own number ≡ 1
mark-same own number same = ap (λ b. cond b 1 0) (eq-eqb own number same)

pub mark-other : (own number : ℕ) → own ≢ number → mark own number ≡ 0
mark-other own number apart = ap (λ b. cond b 1 0) (ne_eqb own number apart)

pub times-cons : (number : ℕ) (pass : Known) (passes : List Known) → times number (pass ∷ passes) ≡ mark pass.number number + times number passes
times-cons number pass passes = sum_by-cons (λ (p : Known). mark p.number number) pass passes

pub times-append : (number : ℕ) (passes others : List Known) → times number (passes ++ others) ≡ times number passes + times number others
times-append number passes others = sum_by-append (λ (p : Known). mark p.number number) passes others

pub times-one : (number : ℕ) (pass : Known) → times number (pass ∷ []) ≡ mark pass.number number
times-one number pass = omega (arith, times-cons number pass [])
