-- Cells that are added one by one are the cells that are declared, or there is a cause to refuse them.
use Rattle.std.proofs.Common.{◌≡◌, ℕ, suc, ◌+◌, ◌<◌, ◌≤◌, Bool, true, false, if◌then◌else◌, not, ◌||◌, ◌&&◌, List, [], ◌∷◌, ◌++◌, length, drop, slice_index_or, Option, None, Some, IsSomeAnd, nat_le, nat_lt, is_none, refl, sym, ap, ◌∙◌, inl, inr, arith}
use Rattle.std.specs.List.{list_any}
use Rattle.std.specs.Option.{option_map, option_and_then, option_map_or}
use Rattle.std.proofs.Math.ListN.{drop_of_length-le}
use Rattle.std.proofs.Math.Seq.{append_snoc, drop-cons}
use Rattle.std.proofs.lemmas.Bool.{le-ltb, lt-ltb}
use Rattle.std.proofs.lemmas.Bool.Decides.{nat_tests}
use Rattle.std.proofs.lemmas.List.{length-append, append-nil}
use Rattle.std.proofs.lemmas.List.Folds.{list_any-append}
use Rattle.scm_sequences.specs.declared.refusal.Refusal.{Refusal}
use Rattle.scm_sequences.specs.declared.refusal.Refusal.TheVariants.{BadDeclaration}
use Rattle.scm_sequences.specs.declared.limits.TheConstants.{MOST_CELLS}
use Rattle.scm_sequences.specs.Sequences.{Refuses}
use Rattle.scm_cells.specs.declared.width.Width.{Width}
use Rattle.scm_cells.specs.declared.initial.Initial.{Initial}
use Rattle.scm_cells.specs.CellLists.{name_eq, first_contents, Declared, add_refusal, declared_cell}
use Rattle.scm_book.specs.declared.call.Decl.{Decl}
use Rattle.scm_book.specs.Machine.{cause, names_differ, declared_cells, are_bad_cells}

-- the cells after all of these were added, None where one is refused
unfoldable pub add_all : List Declared → List Decl → Option (List Declared)
add_all cells [] = Some cells
add_all cells (d ∷ ds) =
    option_map_or (λ _. None) (add_refusal cells d.name d.width d.initial) (option_and_then (λ cell. add_all (cells ++ cell ∷ []) ds) (declared_cell d.name d.width d.initial))

pub add_all-nil : (cells : List Declared) → add_all cells [] ≡ Some cells
unfolding add_all
add_all-nil cells = refl

add_all-cons : (cells : List Declared) (d : Decl) (ds : List Decl) → add_all cells (d ∷ ds) ≡ option_map_or (λ _. None) (add_refusal cells d.name d.width d.initial) (option_and_then (λ cell. add_all (cells ++ cell ∷ []) ds) (declared_cell d.name d.width d.initial))
unfolding add_all
add_all-cons cells d ds = refl

-- one of these has the name of one of the cells
clashes : List Declared → List Decl → Bool
clashes cells [] = false
clashes cells (d ∷ ds) = list_any (λ cell. name_eq cell.name d.name) cells || clashes cells ds

-- there is a cause why these can't be added to the cells, beside their numbers
abbrev are_refused : List Declared → List Decl → Bool
are_refused cells ds = clashes cells ds || nat_lt MOST_CELLS (length cells + length ds) || not (names_differ ds)

exchange : (a b c e : Bool) → (a || b) || (c || e) ≡ (a || c) || (b || e)
exchange true b c e = refl
exchange false true true e = refl
exchange false true false e = refl
exchange false false true e = refl
exchange false false false e = refl

clashes-push : (cells : List Declared) (cell : Declared) (ds : List Decl) → clashes (cells ++ cell ∷ []) ds ≡ clashes cells ds || list_any (λ other. name_eq cell.name other.name) ds
unfolding clashes
clashes-push cells cell [] = refl
clashes-push cells cell (d ∷ ds) =
    let here : list_any (λ c. name_eq c.name d.name) (cells ++ cell ∷ []) ≡ list_any (λ c. name_eq c.name d.name) cells || (name_eq cell.name d.name || false) = list_any-append (λ (c : Declared). name_eq c.name d.name) cells (cell ∷ []) in
    ap (λ b. b || clashes (cells ++ cell ∷ []) ds) (here ∙ ap (λ b. list_any (λ c. name_eq c.name d.name) cells || b) (or-false (name_eq cell.name d.name)))
    ∙ ap (λ b. (list_any (λ c. name_eq c.name d.name) cells || name_eq cell.name d.name) || b) (clashes-push cells cell ds)
    ∙ exchange (list_any (λ c. name_eq c.name d.name) cells) (name_eq cell.name d.name) (clashes cells ds) (list_any (λ other. name_eq cell.name other.name) ds)
  where
    or-false : (b : Bool) → b || false ≡ b
    or-false true = refl
    or-false false = refl

clashes-nil : (ds : List Decl) → clashes [] ds ≡ false
unfolding clashes
clashes-nil [] = refl
clashes-nil (d ∷ ds) = clashes-nil ds

-- the causes after one more cell was added
gathered : (c same full differ : Bool) → ((c || same) || full) || not differ ≡ (c || full) || not (not same && differ)
gathered true same full differ = refl
gathered false true true differ = refl
gathered false true false differ = refl
gathered false false true differ = refl
gathered false false false differ = refl

full_refused : {X : Type 0} (c full differ : Bool) (x : Option X) → full ≡ true → None ≡ (if (c || full) || not differ then None else x)
full_refused true full differ x is = refl
full_refused false true differ x is = refl
full_refused false false differ x is = cc

no_value : {X : Type 0} (b : Bool) → ◌≡◌ {A = Option X} None (if b then None else None)
no_value true = refl
no_value false = refl

one_more : (cells : List Declared) (cell : Declared) (o : Option (List Declared)) → option_map (λ added. (cells ++ cell ∷ []) ++ added) o ≡ option_map (λ added. cells ++ added) (option_map (λ added. cell ∷ added) o)
one_more cells cell None = refl
one_more cells cell (Some added) = ap Some (append_snoc cells cell added)

add_all-is : (cells : List Declared) (ds : List Decl) → length cells ≤ MOST_CELLS
    → add_all cells ds ≡ (if are_refused cells ds then None else option_map (λ added. cells ++ added) (declared_cells ds))
unfolding clashes
add_all-is cells [] few = add_all-nil cells ∙ by (nat_lt MOST_CELLS (length cells + 0)) (le-ltb MOST_CELLS (length cells + 0) (omega arith))
  where
    by : (full : Bool) → full ≡ false → Some cells ≡ (if (false || full) || false then None else Some (cells ++ []))
    by true is = cc
    by false is = ap Some (sym (append-nil cells))
add_all-is cells (d ∷ ds) few = add_all-cons cells d ds ∙ by (list_any (λ cell. name_eq cell.name d.name) cells) (nat_le MOST_CELLS (length cells)) (first_contents d.width d.initial) (λ more h. add_all-is more ds h) refl
  where
    cell_holding : Option ℕ → Declared
    cell_holding contents = record { name = d.name; width = d.width; initial = contents }

    twin : Bool
    twin = list_any (λ other. name_eq d.name other.name) ds

    full : Bool
    full = nat_lt MOST_CELLS (length cells + suc (length ds))

    Rest : Type 0
    Rest = (more : List Declared) → length more ≤ MOST_CELLS → add_all more ds ≡ (if are_refused more ds then None else option_map (λ added. more ++ added) (declared_cells ds))

    added : Rest → (contents : Option ℕ) → nat_le MOST_CELLS (length cells) ≡ false
        → add_all (cells ++ cell_holding contents ∷ []) ds
        ≡ (if (clashes cells ds || full) || not (not twin && names_differ ds) then None else option_map (λ more. cells ++ more) (option_map (λ more. cell_holding contents ∷ more) (declared_cells ds)))
    added rest contents room =
        rest (cells ++ cell_holding contents ∷ []) (grind (arith, nat_tests, length-append cells (cell_holding contents ∷ [])))
        ∙ ap (λ b. if b then None else option_map (λ more. (cells ++ cell_holding contents ∷ []) ++ more) (declared_cells ds)) (
        ap (λ b. (b || nat_lt MOST_CELLS (length (cells ++ cell_holding contents ∷ []) + length ds)) || not (names_differ ds)) (clashes-push cells (cell_holding contents) ds)
        ∙ ap (λ n. ((clashes cells ds || twin) || nat_lt MOST_CELLS n) || not (names_differ ds)) (omega (arith, length-append cells (cell_holding contents ∷ [])))
        ∙ gathered (clashes cells ds) twin full (names_differ ds))
        ∙ ap (λ o. if (clashes cells ds || full) || not (not twin && names_differ ds) then None else o) (one_more cells (cell_holding contents) (declared_cells ds))

    by : (clash at_most : Bool) (contents : Option (Option ℕ)) → Rest → nat_le MOST_CELLS (length cells) ≡ at_most
        → option_map_or (λ _. None) (if clash || at_most then Some BadDeclaration else option_map_or (λ _. None) contents (Some BadDeclaration)) (option_and_then (λ cell. add_all (cells ++ cell ∷ []) ds) (option_map cell_holding contents))
        ≡ (if ((clash || clashes cells ds) || full) || not (not twin && names_differ ds) then None else option_map (λ more. cells ++ more) (option_and_then (λ cell. option_map (λ more. cell ∷ more) (declared_cells ds)) (option_map cell_holding contents)))
    by true at_most contents rest is = refl
    by false true contents rest is = full_refused (clashes cells ds) full (not twin && names_differ ds) (option_map (λ more. cells ++ more) (option_and_then (λ cell. option_map (λ more. cell ∷ more) (declared_cells ds)) (option_map cell_holding contents))) (lt-ltb MOST_CELLS (length cells + suc (length ds)) (grind (arith, nat_tests)))
    by false false None rest is = no_value ((clashes cells ds || full) || not (not twin && names_differ ds))
    by false false (Some contents) rest is = added rest contents is

-- ---- what the loop over the declarations has to show

add_refusal-cases : (cells : List Declared) (name : List ℕ) (width : Width) (initial : Initial) (refusal : Refusal) → add_refusal cells name width initial ≡ Some refusal → refusal ≡ BadDeclaration
add_refusal-cases cells name width initial refusal is = by (list_any (λ cell. name_eq cell.name name) cells || nat_le MOST_CELLS (length cells)) (first_contents width initial) is
  where
    by : (b : Bool) (contents : Option (Option ℕ)) → (if b then Some BadDeclaration else option_map_or (λ _. None) contents (Some BadDeclaration)) ≡ Some refusal → refusal ≡ BadDeclaration
    by true contents is = cc
    by false None is = cc
    by false (Some v) is = cc

rest_at : (decls : List Decl) (i : ℕ) (d : Decl) → i < length decls → d ≡ slice_index_or decls i d → drop i decls ≡ d ∷ drop (i + 1) decls
rest_at decls i d h at = drop-cons decls i d h ∙ ap (λ x. x ∷ drop (suc i) decls) (sym at) ∙ (let e : suc i ≡ i + 1 = omega arith in ap (λ n. d ∷ drop n decls) e)

-- a declaration that was added
pub add_all-added : (cells new : List Declared) (decls : List Decl) (i : ℕ) (d : Decl) → i < length decls → d ≡ slice_index_or decls i d
    → add_refusal cells d.name d.width d.initial ≡ None → IsSomeAnd (declared_cell d.name d.width d.initial) (λ cell. new ≡ cells ++ cell ∷ [])
    → add_all new (drop (i + 1) decls) ≡ add_all cells (drop i decls)
add_all-added cells new decls i d h at none added = sym (
    ap (add_all cells) (rest_at decls i d h at) ∙ add_all-cons cells d (drop (i + 1) decls)
    ∙ ap (λ o. option_map_or (λ _. None) o (option_and_then (λ cell. add_all (cells ++ cell ∷ []) (drop (i + 1) decls)) (declared_cell d.name d.width d.initial))) none
    ∙ by (declared_cell d.name d.width d.initial) added)
  where
    by : (o : Option Declared) → IsSomeAnd o (λ cell. new ≡ cells ++ cell ∷ []) → option_and_then (λ cell. add_all (cells ++ cell ∷ []) (drop (i + 1) decls)) o ≡ add_all new (drop (i + 1) decls)
    by None added = absurd added
    by (Some cell) added = ap (λ more. add_all more (drop (i + 1) decls)) (sym added)

add_all-refused : (cells : List Declared) (decls : List Decl) (i : ℕ) (d : Decl) (refusal : Refusal) → i < length decls → d ≡ slice_index_or decls i d
    → add_refusal cells d.name d.width d.initial ≡ Some refusal → add_all cells (drop i decls) ≡ None
add_all-refused cells decls i d refusal h at is =
    ap (add_all cells) (rest_at decls i d h at) ∙ add_all-cons cells d (drop (i + 1) decls)
    ∙ ap (λ o. option_map_or (λ _. None) o (option_and_then (λ cell. add_all (cells ++ cell ∷ []) (drop (i + 1) decls)) (declared_cell d.name d.width d.initial))) is

from_cases : (e y z : Bool) (o : Option (List Declared)) (cells : List Declared) → e ≡ false → (if (false || y) || z then None else option_map (λ added. [] ++ added) o) ≡ Some cells → ((((e || y) || z) || is_none o) ≡ false) × (o ≡ Some cells)
from_cases true y z o cells he h = cc
from_cases false true z o cells he h = cc
from_cases false false true o cells he h = cc
from_cases false false false None cells he h = cc
from_cases false false false (Some x) cells he h = (refl, h)

none_cases : (e y z : Bool) (o : Option (List Declared)) → (if (false || y) || z then None else option_map (λ added. [] ++ added) o) ≡ None → (((e || y) || z) || is_none o) ≡ true
none_cases true y z o h = refl
none_cases false true z o h = refl
none_cases false false true o h = refl
none_cases false false false None h = refl
none_cases false false false (Some x) h = cc

all_is : (decls : List Decl) → add_all [] decls ≡ (if (false || nat_lt MOST_CELLS (length decls)) || not (names_differ decls) then None else option_map (λ added. [] ++ added) (declared_cells decls))
all_is decls =
    add_all-is [] decls (omega arith)
    ∙ ap (λ b. if (b || nat_lt MOST_CELLS (0 + length decls)) || not (names_differ decls) then None else option_map (λ added. [] ++ added) (declared_cells decls)) (clashes-nil decls)
    ∙ ap (λ n. if (false || nat_lt MOST_CELLS n) || not (names_differ decls) then None else option_map (λ added. [] ++ added) (declared_cells decls)) (omega arith)

pub are_bad_cells-all_added : (decls : List Decl) (cells : List Declared) → 0 < length decls → add_all [] decls ≡ Some cells → (are_bad_cells decls ≡ false) × (declared_cells decls ≡ Some cells)
are_bad_cells-all_added decls cells some is =
    from_cases (nat_lt (length decls) 1) (nat_lt MOST_CELLS (length decls)) (not (names_differ decls)) (declared_cells decls) cells (le-ltb (length decls) 1 (omega arith)) (sym (all_is decls) ∙ is)

pub are_bad_cells-refused : (decls : List Decl) → add_all [] decls ≡ None → are_bad_cells decls ≡ true
are_bad_cells-refused decls is =
    none_cases (nat_lt (length decls) 1) (nat_lt MOST_CELLS (length decls)) (not (names_differ decls)) (declared_cells decls) (sym (all_is decls) ∙ is)

-- a declaration that was refused
pub Refuses-declared : (cells : List Declared) (decls : List Decl) (i : ℕ) (d : Decl) (refusal : Refusal) → i < length decls → d ≡ slice_index_or decls i d → add_all cells (drop i decls) ≡ add_all [] decls
    → Refuses (add_refusal cells d.name d.width d.initial) refusal → Refuses (cause (are_bad_cells decls) BadDeclaration) refusal
Refuses-declared cells decls i d refusal h at so_far (inr no_memory) = inr no_memory
Refuses-declared cells decls i d refusal h at so_far (inl is) = inl (
    ap (λ b. cause b BadDeclaration) (are_bad_cells-refused decls (sym so_far ∙ add_all-refused cells decls i d refusal h at is))
    ∙ ap Some (sym (add_refusal-cases cells d.name d.width d.initial refusal is)))

-- all were added
pub add_all-ended : (cells : List Declared) (decls : List Decl) (i : ℕ) → length decls ≤ i → add_all cells (drop i decls) ≡ add_all [] decls → add_all [] decls ≡ Some cells
add_all-ended cells decls i ended so_far = sym so_far ∙ ap (add_all cells) (drop_of_length-le decls ended) ∙ add_all-nil cells
