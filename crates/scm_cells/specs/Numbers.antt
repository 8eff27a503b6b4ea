-- Numbers of a width, as words have them and as digits. This project's profile.
use Rattle.std.specs.Prelude.{ℕ, ◌^◌, ◌+◌, ◌-◌, ◌*◌, ◌%◌, min, List, length, drop, codes, Bool, false, ◌&&◌, ◌||◌, nat_le, nat_lt, nat_eq, if◌then◌else◌, Option, None, Some, fold}
use Rattle.scm_cells.specs.declared.width.Width.{Width}
use Rattle.scm_cells.specs.declared.width.Width.TheVariants.{W, D}
use Rattle.std.specs.Option.{option_map}
use Rattle.std.specs.List.{list_all, starts_with}
use Rattle.scm_cells.specs.declared.number.Num.{Num}
use Rattle.scm_cells.specs.declared.number.Num.TheVariants.{Plain, Negative, Beyond}
use Rattle.scm_cells.specs.declared.digits.Base.{Base}
use Rattle.scm_cells.specs.declared.digits.Base.TheVariants.{Decimal, Hexadecimal}

-- ---- the widths of cells. A value of w bits is a number from 0 to 2^w - 1.
-- (RISC-V Unprivileged ISA 20191213: words of 32 bits and doublewords of 64.)

abbrev pub bits_of : Width → ℕ
bits_of W = 32
bits_of D = 64

-- how many values a cell of this width can hold
abbrev pub values_of : Width → ℕ
values_of w = 2 ^ bits_of w

-- ---- the words that stand for counts and numbers, and the value of a number in a cell. This project's profile.

abbrev pub is_digit : ℕ → Bool
is_digit b = nat_le 48 b && nat_le b 57

-- of either case
abbrev pub is_hex_digit : ℕ → Bool
is_hex_digit b = is_digit b || (nat_le 65 b && nat_le b 70) || (nat_le 97 b && nat_le b 102)

abbrev pub hex_digit_value : ℕ → ℕ
hex_digit_value b = if nat_le b 57 then b - 48 else (if nat_le b 70 then b - 55 else b - 87)

-- the number that one or more decimal digits stand for
abbrev pub decimal_value : List ℕ → Option ℕ
decimal_value word =
    if nat_lt 0 (length word) && list_all is_digit word then Some (fold (λ n b. n * 10 + (b - 48)) 0 word) else None

-- the number that one or more hexadecimal digits stand for
abbrev pub hex_value : List ℕ → Option ℕ
hex_value word =
    if nat_lt 0 (length word) && list_all is_hex_digit word then
    Some (fold (λ n b. n * 16 + hex_digit_value b) 0 word)
    else None

abbrev pub plain_or_beyond : ℕ → Num
plain_or_beyond n = if nat_lt n (2 ^ 64) then Plain n else Beyond

abbrev pub negative_or_beyond : ℕ → Num
negative_or_beyond m = if nat_lt m (2 ^ 64) then Negative m else Beyond

-- a number: decimal digits, '-' and decimal digits, or '0x' and hexadecimal digits
abbrev pub number_of_word : List ℕ → Option Num
number_of_word word =
    if starts_with nat_eq word (codes "-") then option_map negative_or_beyond (decimal_value (drop 1 word))
    else (if starts_with nat_eq word (codes "0x") then option_map plain_or_beyond (hex_value (drop 2 word))
    else option_map plain_or_beyond (decimal_value word))

-- a count: decimal digits; what is past 2^64 - 1 stands for 2^64 - 1, which is above every limit
abbrev pub count_of_word : List ℕ → Option ℕ
count_of_word word = option_map (λ n. min n (2 ^ 64 - 1)) (decimal_value word)

-- a 32-bit value may stand sign-extended to 64 bits
abbrev pub is_sign_extended : Width → ℕ → Bool
is_sign_extended W n = nat_le (2 ^ 64 - 2 ^ 31) n && nat_lt n (2 ^ 64)
is_sign_extended D n = false

-- the value of a number in a cell of this width, None where it doesn't fit
abbrev pub value_of_number : Width → Num → Option ℕ
value_of_number w (Plain n) =
    if nat_lt n (values_of w) then Some n
    else (if is_sign_extended w n then Some (n % values_of w) else None)
value_of_number w (Negative m) =
    if nat_le (2 * m) (values_of w) then Some ((values_of w - m) % values_of w) else None
value_of_number w Beyond = None

-- ---- words of digits in a base of either kind, for the one loop that reads both.

abbrev pub radix_of : Base → ℕ
radix_of Decimal = 10
radix_of Hexadecimal = 16

abbrev pub is_digit_of : Base → ℕ → Bool
is_digit_of Decimal b = is_digit b
is_digit_of Hexadecimal b = is_hex_digit b

abbrev pub digit_value_in : Base → ℕ → ℕ
digit_value_in Decimal b = b - 48
digit_value_in Hexadecimal b = hex_digit_value b

-- the number whose digits are those of n and this one
abbrev pub with_digit : Base → ℕ → ℕ → ℕ
with_digit base n b = n * radix_of base + digit_value_in base b

-- the number that one or more digits stand for
abbrev pub number_of_digits : Base → List ℕ → Option ℕ
number_of_digits base word =
    if nat_lt 0 (length word) && list_all (is_digit_of base) word then Some (fold (with_digit base) 0 word) else None

-- the number, where 64 bits hold it
abbrev pub held : ℕ → Option ℕ
held n = if nat_lt n (2 ^ 64) then Some n else None
