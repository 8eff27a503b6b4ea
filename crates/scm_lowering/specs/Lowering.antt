-- What operation an access is. A load of v from c is R(c, v), a store of v is W(c, v), and an AMO with operand v that
-- gave old is RW(c, old, the result of the AMO), in the operations of Gibbons and Korach, "Testing Shared Memories",
-- 1997. An access is refused where there is no such cell, then where its width is not the cell's, then where a
-- number of it doesn't fit. This project's profile.
use Rattle.std.specs.Prelude.{ℕ, List, Bool, true, false, if◌then◌else◌, Result, Ok, Err, option_and_then, ok_or, slice_get}
use Rattle.std.specs.Option.{option_map}
use Rattle.scm_sequences.specs.declared.op.Op.{Op}
use Rattle.scm_sequences.specs.declared.op.Op.TheVariants.{R, W as Written, Rw}
use Rattle.scm_sequences.specs.declared.refusal.Refusal.{Refusal}
use Rattle.scm_sequences.specs.declared.refusal.Refusal.TheVariants.{NoSuchCell, WidthMismatch, ValueOutOfRange}
use Rattle.scm_cells.specs.declared.width.Width.{Width}
use Rattle.scm_cells.specs.declared.width.Width.TheVariants.{W, D}
use Rattle.scm_cells.specs.declared.number.Num.{Num}
use Rattle.scm_cells.specs.CellLists.{Declared, cell_named}
use Rattle.scm_cells.specs.Numbers.{value_of_number}
use Rattle.scm_amo.specs.Results.{amo_result}
use Rattle.scm_lowering.specs.declared.access.Access.{Access}
use Rattle.scm_lowering.specs.declared.access.Access.TheVariants.{Load, Store, Amo, ReadWrite}

-- what f makes of the value, or the refusal
abbrev pub and_then : {T U : Type 0} → Result T Refusal → (T → Result U Refusal) → Result U Refusal
and_then (Ok x) f = f x
and_then (Err e) f = Err e

abbrev pub width_eq : Width → Width → Bool
width_eq W W = true
width_eq W D = false
width_eq D W = false
width_eq D D = true

-- the number and the width of the cell of this name
abbrev pub cell_and_width : List Declared → List ℕ → Result (ℕ × Width) Refusal
cell_and_width cells name =
    ok_or (option_and_then (λ c. option_map (λ cell. (c, cell.width)) (slice_get cells c)) (cell_named cells name))
    NoSuchCell

-- the number of the cell of this name, which has to have the width w
abbrev pub cell_for : List Declared → List ℕ → Width → Result ℕ Refusal
cell_for cells name w =
    and_then (cell_and_width cells name) (λ found. if width_eq found.1 w then Ok found.0 else Err WidthMismatch)

-- the value of a number in a cell of the width w
abbrev pub narrowed : Width → Num → Result ℕ Refusal
narrowed w number = ok_or (value_of_number w number) ValueOutOfRange

unfoldable pub lowered : List Declared → Access → Result Op Refusal
lowered cells (Load w name value) =
    and_then (cell_for cells name w) (λ c. and_then (narrowed w value) (λ d. Ok (R c d)))
lowered cells (Store w name value) =
    and_then (cell_for cells name w) (λ c. and_then (narrowed w value) (λ d. Ok (Written c d)))
lowered cells (Amo kind w name operand old) =
    and_then (cell_for cells name w)
    (λ c. and_then (narrowed w operand) (λ v. and_then (narrowed w old) (λ d. Ok (Rw c d (amo_result kind w d v)))))
lowered cells (ReadWrite name old new) =
    and_then (cell_and_width cells name)
    (λ found. and_then (narrowed found.1 old) (λ d. and_then (narrowed found.1 new) (λ e. Ok (Rw found.0 d e))))
