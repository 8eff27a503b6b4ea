-- The laws of lists of cells.
use Rattle.std.specs.Prelude.{ℕ, ◌≡◌, ◌<◌, ◌≢◌, List, [], ◌∷◌, ◌++◌, length, Bool, true, false, ◌||◌, nat_le, if◌then◌else◌, Option, None, Some, option_map, IsSomeAnd, slice_index_or}
use Rattle.std.specs.List.{list_any}
use Rattle.std.specs.Option.{option_map_or}
use Rattle.std.proofs.Common.{◌∙◌, refl, sym, subst, arith, true≢false}
use Rattle.std.proofs.lemmas.Bool.Decides.{nat_tests}
use Rattle.std.proofs.lemmas.List.{length-map, length-append}
use Rattle.std.proofs.lemmas.List.Elements.{All-push}
use Rattle.std.proofs.lemmas.List.Folds.{list_any_at}
use Rattle.std.proofs.lemmas.List.Quantifiers.{all_pairs_push}
use Rattle.scm_sequences.specs.declared.refusal.Refusal.TheVariants.{BadDeclaration}
use Rattle.scm_sequences.specs.declared.limits.TheConstants.{MOST_CELLS}
use Rattle.scm_cells.specs.declared.width.Width.{Width}
use Rattle.scm_cells.specs.declared.width.Width.TheVariants.{W, D}
use Rattle.scm_cells.specs.declared.number.Num.{Num}
use Rattle.scm_cells.specs.declared.number.Num.TheVariants.{Plain, Negative, Beyond}
use Rattle.scm_cells.specs.CellLists.{name_eq, first_contents, Declared, AreCells, HasValueInWidth, add_refusal, declared_cell, initials_of}
use Rattle.scm_cells.specs.laws.NameLaws.{name_eq-Decides}
use Rattle.scm_cells.specs.declared.initial.Initial.{Initial}
use Rattle.scm_cells.specs.declared.initial.Initial.TheVariants.{Given, Unset}
use Rattle.scm_cells.specs.Numbers.{values_of, value_of_number}

-- ---- what cells hold at first

pub length-initials_of : (cells : List Declared) → length (initials_of cells) ≡ length cells
length-initials_of cells = length-map cells (λ cell. cell.initial)

-- a number's value in a cell is below the limit of the cell's width
pub value_of_number-lt : (width : Width) (number : Num) (value : ℕ)
    → value_of_number width number ≡ Some value → value < values_of width
value_of_number-lt W (Plain n) value is = grind (arith, nat_tests)
value_of_number-lt D (Plain n) value is = grind (arith, nat_tests)
value_of_number-lt W (Negative m) value is = grind (arith, nat_tests)
value_of_number-lt D (Negative m) value is = grind (arith, nat_tests)
value_of_number-lt width Beyond value is = cc

-- ---- adding a cell

-- what holds where a cell can be added
pub record IsAddable (cells : List Declared) (name : List ℕ) (width : Width) (initial : Initial) : Type 0 where
  pub new : list_any (λ cell. name_eq cell.name name) cells ≡ false
  pub room : length cells < MOST_CELLS
  pub contents : Option ℕ
  pub are_contents : first_contents width initial ≡ Some contents

pub IsAddable-from_add_refusal : (cells : List Declared) (name : List ℕ) (width : Width) (initial : Initial)
    → add_refusal cells name width initial ≡ None → IsAddable cells name width initial
IsAddable-from_add_refusal cells name width initial none =
    by (list_any (λ cell. name_eq cell.name name) cells) (nat_le MOST_CELLS (length cells)) (first_contents width initial) refl refl refl none
  where
    by : (has_name is_full : Bool) (contents : Option (Option ℕ))
        → list_any (λ cell. name_eq cell.name name) cells ≡ has_name
        → nat_le MOST_CELLS (length cells) ≡ is_full
        → first_contents width initial ≡ contents
        → (if has_name || is_full then Some BadDeclaration
        else option_map_or (λ _. None) contents (Some BadDeclaration)) ≡ None
        → IsAddable cells name width initial
    by true is_full contents new room are_contents none = cc
    by false true contents new room are_contents none = cc
    by false false None new room are_contents none = cc
    by false false (Some contents) new room are_contents none =
        record { new = new; room = grind (arith, nat_tests); contents = contents; are_contents = are_contents }

-- what a cell holds at first has its width
HasValueInWidth-declared : (name : List ℕ) (width : Width) (initial : Initial) (contents : Option ℕ)
    → first_contents width initial ≡ Some contents
    → HasValueInWidth (record { name = name; width = width; initial = contents })
HasValueInWidth-declared name width initial None are = tt
HasValueInWidth-declared name width Unset (Some value) are = cc
HasValueInWidth-declared name width (Given number) (Some value) are = by (value_of_number width number) refl are
  where
    by : (held : Option ℕ) → value_of_number width number ≡ held → option_map Some held ≡ Some (Some value)
        → value < values_of width
    by None is are = cc
    by (Some v) is are = value_of_number-lt width number value (cc)

-- a name that is nowhere among these cells differs from each of theirs
different_from : (cells : List Declared) (name : List ℕ)
    → list_any (λ cell. name_eq cell.name name) cells ≡ false
    → (k : ℕ) (d : Declared) → k < length cells → (slice_index_or cells k d).name ≢ name
different_from cells name new k d below same =
    let has_name = list_any_at (λ cell. name_eq cell.name name) cells k d below ((name_eq-Decides _ name).1 same) in
    true≢false (sym has_name ∙ new)

-- the cells after one more was declared, as 'Cells::add' leaves them
pub AreCells-add : (cells new : List Declared) (name : List ℕ) (width : Width) (initial : Initial)
    → AreCells cells
    → add_refusal cells name width initial ≡ None
    → IsSomeAnd (declared_cell name width initial) (λ cell. new ≡ cells ++ cell ∷ [])
    → AreCells new
AreCells-add cells new name width initial are none added =
    let addable = IsAddable-from_add_refusal cells name width initial none in
    let cell : Declared = record { name = name; width = width; initial = addable.contents } in
    let is : new ≡ cells ++ cell ∷ [] = rw addable.are_contents at added in
    subst AreCells (sym is) record {
      most = simp length-append (omega (arith, addable.room));
      different = all_pairs_push (λ a b. a.name ≢ b.name) cells cell are.different (different_from cells name addable.new);
      values = All-push HasValueInWidth cells cell are.values (HasValueInWidth-declared name width initial addable.contents addable.are_contents);
    }
