use Rattle.std.proofs.Common.{◌≡◌, true, take}
use Rattle.std.specs.List.{fold, list_all}
use Rattle.scm_cells.specs.Numbers.{held, is_digit_of, with_digit}
use Rattle.scm_cells.proofs.digits.read_digits.Given as goal

abbrev pub invariant-loop-byte : goal.invariant-loop-byte
invariant-loop-byte l = record {
  digits : list_all (is_digit_of l.base) (take l.byte-index l.word) ≡ true;
  number : l.number ≡ held (fold (with_digit l.base) 0 (take l.byte-index l.word));
}
