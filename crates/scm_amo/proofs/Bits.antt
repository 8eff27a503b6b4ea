-- The operations bit by bit are those of the machine.
use Rattle.std.proofs.Common.{◌≡◌, ℕ, zero, suc, ◌+◌, ◌*◌, ◌/◌, ◌%◌, ◌^◌, ◌<◌, bit_and, sym, ◌∙◌, ap, arith, lit<}
use Rattle.std.specs.Prelude.{bit_or, bit_xor}
use Rattle.std.specs.Int.{bit_at}
use Rattle.std.proofs.Math.Arith.{mod-mul}
use Rattle.std.proofs.Math.Nat.{pow-suc, mul_comm, mod-eq_of_lt}
use Rattle.std.proofs.lemmas.Nat.{and_le_l, or_lt, xor_lt, pow_pos}
use Rattle.std.proofs.lemmas.Nat.Bits.{bit_at_and, bit_at_or, bit_at_xor}
use Rattle.scm_cells.specs.declared.width.Width.{Width}
use Rattle.scm_cells.specs.Numbers.{bits_of, values_of}
use Rattle.scm_amo.specs.declared.kind.AmoKind.{AmoKind}
use Rattle.scm_amo.specs.declared.kind.AmoKind.TheVariants.{And, Or, Xor}
use Rattle.scm_amo.specs.Results.{number_of_bits, amo_result}

-- the lowest k bits of n are a number again
pub number_of_bits-bit_at : (k n : ℕ) → number_of_bits k (λ i. bit_at n i) ≡ n % 2 ^ k
unfolding number_of_bits
number_of_bits-bit_at zero n = omega arith
number_of_bits-bit_at (suc k) n =
    let some : 0 < 2 ^ k = pow_pos k in
    let split : n % (2 * 2 ^ k) ≡ (n / 2 ^ k % 2) * 2 ^ k + n % 2 ^ k = mod-mul n (lit< tt) some in
    omega (arith, split, number_of_bits-bit_at k n, ap (λ m. n % m) (pow-suc 2 k), ap (λ m. n % m) (mul_comm 2 (2 ^ k)))

-- a number below 2^k is made by its bits
pub number_of_bits-same : (k n : ℕ) (bit : ℕ → ℕ) → n < 2 ^ k → ((i : ℕ) → bit_at n i ≡ bit i) → n ≡ number_of_bits k bit
number_of_bits-same k n bit small same =
    sym (mod-eq_of_lt small) ∙ sym (number_of_bits-bit_at k n) ∙ ap (number_of_bits k) (λ j i. same i j)

pub and_result : (kind : AmoKind) (w : Width) (a b : ℕ) → kind ≡ And → a < values_of w → b < values_of w → bit_and a b ≡ amo_result kind w a b
unfolding amo_result
and_result kind w a b is small _ =
    rw is (number_of_bits-same (bits_of w) _ _ (omega (arith, and_le_l a b)) (bit_at_and a b))

pub or_result : (kind : AmoKind) (w : Width) (a b : ℕ) → kind ≡ Or → a < values_of w → b < values_of w → bit_or a b ≡ amo_result kind w a b
unfolding amo_result
or_result kind w a b is small_a small_b =
    rw is (number_of_bits-same (bits_of w) _ _ (or_lt _ a b small_a small_b) (bit_at_or a b))

pub xor_result : (kind : AmoKind) (w : Width) (a b : ℕ) → kind ≡ Xor → a < values_of w → b < values_of w → bit_xor a b ≡ amo_result kind w a b
unfolding amo_result
xor_result kind w a b is small_a small_b =
    rw is (number_of_bits-same (bits_of w) _ _ (xor_lt _ a b small_a small_b) (bit_at_xor a b))
