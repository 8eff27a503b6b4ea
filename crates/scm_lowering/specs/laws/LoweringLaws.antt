-- What holds of every operation that an access is.
use Rattle.std.specs.Prelude.{ℕ, ◌≡◌, ◌<◌, List, length, Option, None, Some, Result, Ok, Err, Bool, true, false, if◌then◌else◌, option_and_then, option_map, ok_or, slice_get, IfOk}
use Rattle.std.proofs.Common.{refl, subst}
use Rattle.std.proofs.lemmas.Option.{slice_get_within}
use Rattle.scm_sequences.specs.Sequences.{cell_of}
use Rattle.scm_sequences.specs.declared.op.Op.{Op}
use Rattle.scm_sequences.specs.declared.op.Op.TheVariants.{R, W as Written, Rw}
use Rattle.scm_sequences.specs.declared.refusal.Refusal.{Refusal}
use Rattle.scm_sequences.specs.declared.refusal.Refusal.TheVariants.{NoSuchCell, WidthMismatch}
use Rattle.scm_cells.specs.declared.width.Width.{Width}
use Rattle.scm_cells.specs.CellLists.{Declared, cell_named}
use Rattle.scm_amo.specs.Results.{amo_result}
use Rattle.scm_lowering.specs.declared.access.Access.{Access}
use Rattle.scm_lowering.specs.declared.access.Access.TheVariants.{Load, Store, Amo, ReadWrite}
use Rattle.scm_lowering.specs.Lowering.{and_then, cell_and_width, cell_for, narrowed, lowered, width_eq}

-- what holds of each value that f may make
IfOk-and_then : {T U : Type 0} (P : U → Type 0) (r : Result T Refusal) (f : T → Result U Refusal) → ((x : T) → r ≡ Ok x → IfOk (f x) P) → IfOk (and_then r f) P
IfOk-and_then P (Ok x) f each = each x refl
IfOk-and_then P (Err e) f each = tt

-- the value that is made, of those of which it holds
IfOk-value : {T : Type 0} (P : T → Type 0) (r : Result T Refusal) (x : T) → r ≡ Ok x → IfOk r P → P x
IfOk-value P r x is h = subst (λ result. IfOk result P) is h

-- a cell that is found is one of the trace
cell_and_width-lt : (cells : List Declared) (name : List ℕ) → IfOk (cell_and_width cells name) (λ found. found.0 < length cells)
cell_and_width-lt cells name = by_place (cell_named cells name)
  where
    by_cell : (c : ℕ) (cell : Option Declared) → slice_get cells c ≡ cell → IfOk (ok_or (option_map (λ d. (c, d.width)) cell) NoSuchCell) (λ (found : ℕ × Width). found.0 < length cells)
    by_cell c None is = tt
    by_cell c (Some d) is = slice_get_within cells c d is

    by_place : (place : Option ℕ) → IfOk (ok_or (option_and_then (λ c. option_map (λ cell. (c, cell.width)) (slice_get cells c)) place) NoSuchCell) (λ (found : ℕ × Width). found.0 < length cells)
    by_place None = tt
    by_place (Some c) = by_cell c (slice_get cells c) refl

cell_for-lt : (cells : List Declared) (name : List ℕ) (w : Width) → IfOk (cell_for cells name w) (λ c. c < length cells)
cell_for-lt cells name w =
    IfOk-and_then (λ c. c < length cells) (cell_and_width cells name) (λ found. if width_eq found.1 w then Ok found.0 else Err WidthMismatch)
    (λ found is. by_width (width_eq found.1 w) found.0 (IfOk-value (λ f. f.0 < length cells) _ found is (cell_and_width-lt cells name)))
  where
    by_width : (same : Bool) (c : ℕ) → c < length cells → IfOk (if same then Ok c else Err WidthMismatch) (λ n. n < length cells)
    by_width true c within = within
    by_width false c within = tt

abbrev IsOnCell : List Declared → Op → Type 0
IsOnCell cells op = cell_of op < length cells

lowered-IfOk : (cells : List Declared) (access : Access) → IfOk (lowered cells access) (IsOnCell cells)
unfolding lowered
lowered-IfOk cells (Load w name value) =
    IfOk-and_then (IsOnCell cells) (cell_for cells name w) (λ c. and_then (narrowed w value) (λ d. Ok (R c d)))
    (λ c is. IfOk-and_then (IsOnCell cells) (narrowed w value) (λ d. Ok (R c d))
    (λ _ _. IfOk-value (λ n. n < length cells) _ c is (cell_for-lt cells name w)))
lowered-IfOk cells (Store w name value) =
    IfOk-and_then (IsOnCell cells) (cell_for cells name w) (λ c. and_then (narrowed w value) (λ d. Ok (Written c d)))
    (λ c is. IfOk-and_then (IsOnCell cells) (narrowed w value) (λ d. Ok (Written c d))
    (λ _ _. IfOk-value (λ n. n < length cells) _ c is (cell_for-lt cells name w)))
lowered-IfOk cells (Amo kind w name operand old) =
    IfOk-and_then (IsOnCell cells) (cell_for cells name w) (λ c. and_then (narrowed w operand) (λ v. and_then (narrowed w old) (λ d. Ok (Rw c d (amo_result kind w d v)))))
    (λ c is. IfOk-and_then (IsOnCell cells) (narrowed w operand) (λ v. and_then (narrowed w old) (λ d. Ok (Rw c d (amo_result kind w d v))))
    (λ v _. IfOk-and_then (IsOnCell cells) (narrowed w old) (λ d. Ok (Rw c d (amo_result kind w d v)))
    (λ _ _. IfOk-value (λ n. n < length cells) _ c is (cell_for-lt cells name w))))
lowered-IfOk cells (ReadWrite name old new) =
    IfOk-and_then (IsOnCell cells) (cell_and_width cells name) (λ found. and_then (narrowed found.1 old) (λ d. and_then (narrowed found.1 new) (λ e. Ok (Rw found.0 d e))))
    (λ found is. IfOk-and_then (IsOnCell cells) (narrowed found.1 old) (λ d. and_then (narrowed found.1 new) (λ e. Ok (Rw found.0 d e)))
    (λ d _. IfOk-and_then (IsOnCell cells) (narrowed found.1 new) (λ e. Ok (Rw found.0 d e))
    (λ _ _. IfOk-value (λ f. f.0 < length cells) _ found is (cell_and_width-lt cells name))))

-- an operation that an access is, is about a cell of the trace
pub lowered-cell : (cells : List Declared) (access : Access) (op : Op) → lowered cells access ≡ Ok op → cell_of op < length cells
lowered-cell cells access op is = IfOk-value (IsOnCell cells) (lowered cells access) op is (lowered-IfOk cells access)
