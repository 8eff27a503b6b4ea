-- The values of numbers, as the code computes them: 'max' is the greatest value of the width.
use Rattle.std.proofs.Common.{◌≡◌, ℕ, ◌+◌, ◌-◌, ◌/◌, ◌%◌, ◌^◌, ◌<◌, ◌≤◌, Some, bit_and, arith, ap, ◌∙◌}
use Rattle.std.proofs.lemmas.Bool.Decides.{nat_tests}
use Rattle.std.proofs.lemmas.Nat.{and_mask}
use Rattle.scm_cells.specs.declared.width.Width.{Width}
use Rattle.scm_cells.specs.declared.width.Width.TheVariants.{W, D}
use Rattle.scm_cells.specs.declared.number.Num.TheVariants.{Plain, Negative}
use Rattle.scm_cells.specs.Numbers.{values_of, value_of_number}

and-max_value : (width : Width) (n max : ℕ) → max + 1 ≡ values_of width → bit_and n max ≡ n % values_of width
and-max_value W n max is = let e : max ≡ 2 ^ 32 - 1 = omega arith in ap (bit_and n) e ∙ and_mask n 32
and-max_value D n max is = let e : max ≡ 2 ^ 64 - 1 = omega arith in ap (bit_and n) e ∙ and_mask n 64

pub value_of-sign_extended : (width : Width) (n max : ℕ)
    → max + 1 ≡ values_of width → width ≡ W → max < n → 2 ^ 64 - 2 ^ 31 ≤ n → n < 2 ^ 64
    → Some (bit_and n max) ≡ value_of_number width (Plain n)
value_of-sign_extended W n max is word above extended held = rw (and-max_value W n max is) (grind (arith, nat_tests))
value_of-sign_extended D n max is word above extended held = cc

pub value_of-negative : (width : Width) (m max negated : ℕ)
    → max + 1 ≡ values_of width → m ≤ max / 2 + 1 → negated < 2 ^ 64 → (negated + m) % 2 ^ 64 ≡ 0
    → Some (bit_and negated max) ≡ value_of_number width (Negative m)
value_of-negative W m max negated is fits held negates = rw (and-max_value W negated max is) (grind (arith, nat_tests))
value_of-negative D m max negated is fits held negates = rw (and-max_value D negated max is) (grind (arith, nat_tests))
