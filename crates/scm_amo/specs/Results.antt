-- What an atomic memory operation (AMO) stores, for the old value of its cell and its operand, which are numbers of its
-- width. RISC-V Unprivileged ISA 20191213, chapter "A".
use Rattle.std.specs.Prelude.{ℕ, zero, suc, ◌+◌, ◌*◌, ◌%◌, ◌^◌, min, max, nat_lt, if◌then◌else◌, ℤ, pos, ◌-ℤ◌, int_lt}
use Rattle.std.specs.Int.{bit_at}
use Rattle.scm_cells.specs.declared.width.Width.{Width}
use Rattle.scm_cells.specs.Numbers.{bits_of, values_of}
use Rattle.scm_amo.specs.declared.kind.AmoKind.{AmoKind}
use Rattle.scm_amo.specs.declared.kind.AmoKind.TheVariants.{Swap, Add, And, Or, Xor, Max, Min, MaxU, MinU}

-- the signed number that a number of this width stands for, in two's complement
abbrev pub signed_value : Width → ℕ → ℤ
signed_value w n = if nat_lt (2 * n) (values_of w) then pos n else pos n -ℤ pos (values_of w)

-- the number below 2^k that has these bits, from place 0 on
unfoldable pub number_of_bits : ℕ → (ℕ → ℕ) → ℕ
number_of_bits zero bit = 0
number_of_bits (suc k) bit = number_of_bits k bit + bit k * 2 ^ k

-- the number of this width each of whose bits is g of the two bits
abbrev pub bitwise : (ℕ → ℕ → ℕ) → Width → ℕ → ℕ → ℕ
bitwise g w a b = number_of_bits (bits_of w) (λ i. g (bit_at a i) (bit_at b i))

unfoldable pub amo_result : AmoKind → Width → ℕ → ℕ → ℕ
amo_result Swap w old v = v
amo_result Add w old v = (old + v) % values_of w
amo_result And w old v = bitwise min w old v
amo_result Or w old v = bitwise max w old v
amo_result Xor w old v = bitwise (λ a b. (a + b) % 2) w old v
amo_result Max w old v = if int_lt (signed_value w v) (signed_value w old) then old else v
amo_result Min w old v = if int_lt (signed_value w v) (signed_value w old) then v else old
amo_result MaxU w old v = max old v
amo_result MinU w old v = min old v
