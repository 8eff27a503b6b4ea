-- The map that cells are kept in.
use Rattle.std.proofs.Common.{◌≡◌, ℕ, ◌<◌, ◌≤◌, List, [], ◌∷◌, ◌++◌, length, map, Bool, true, false, ◌||◌, nat_le, if◌then◌else◌, Option, Some, None, Result, Ok, Err, OnOk, IsSomeAnd, ok_or, position, is_ok, is_some, refl, ap, true≢false, arith}
use Rattle.std.specs.List.{list_any}
use Rattle.std.specs.Map.{lookup, keys_of, values_of}
use Rattle.std.specs.Option.{option_map_or}
use Rattle.std.proofs.lemmas.Bool.Decides.{nat_tests}
use Rattle.std.proofs.lemmas.List.{length-map, map-append}
use Rattle.indexmap.specs.IndexMap.{IndexMap, get_by, insert_entry}
use Rattle.indexmap.proofs.CallerLemmas.{insert_entry-new}
use Rattle.scm_sequences.specs.declared.refusal.Refusal.{Refusal}
use Rattle.scm_sequences.specs.declared.refusal.Refusal.TheVariants.{BadDeclaration}
use Rattle.scm_sequences.specs.declared.limits.TheConstants.{MOST_CELLS}
use Rattle.scm_cells.specs.declared.cells.CellProperties.{CellProperties}
use Rattle.scm_cells.specs.declared.initial.Initial.{Initial}
use Rattle.scm_cells.specs.declared.width.Width.{Width}
use Rattle.scm_cells.specs.CellLists.{name_eq, first_contents, Declared, add_refusal, cell_named, declared_cell, initials_of, cells_in}
use Rattle.scm_cells.specs.laws.NameLaws.{position-named, list_any-named}

pub length-cells_in : (entries : List (List ℕ × CellProperties))
    → length (cells_in entries) ≡ length entries
length-cells_in entries = length-map entries _

pub cell_named-cells_in : (entries : List (List ℕ × CellProperties)) (name : List ℕ)
    → cell_named (cells_in entries) name ≡ position (name_eq name) (keys_of entries)
cell_named-cells_in entries name = position-named _ (λ (cell : Declared). cell.name) (λ e. refl) name entries

pub has_name-cells_in : (entries : List (List ℕ × CellProperties)) (name : List ℕ)
    → list_any (λ cell. name_eq cell.name name) (cells_in entries) ≡ is_some (lookup (name_eq name) entries)
has_name-cells_in entries name = list_any-named _ (λ (cell : Declared). cell.name) (λ e. refl) name entries

pub initials_of-cells_in : (entries : List (List ℕ × CellProperties))
    → initials_of (cells_in entries) ≡ map (λ cell. cell.initial) (values_of entries)
initials_of-cells_in [] = refl
initials_of-cells_in (e ∷ entries) = ap (λ rest. e.1.initial ∷ rest) (initials_of-cells_in entries)

pub OnOk-at : {T E P : Type 0} (r : Result T E) → OnOk r P → true ≡ is_ok r → P
OnOk-at (Ok x) holds is = holds
OnOk-at (Err e) holds is = absurd (true≢false is)

none_from : {X : Type 0} (o : Option X) → is_some o ≡ false → o ≡ None
none_from None is = refl
none_from (Some x) is = absurd (true≢false is)

some_from : {X E : Type 0} (o : Option X) (e : E) (x : X) → ok_or o e ≡ Ok x → o ≡ Some x
some_from None e x is = cc
some_from (Some y) e x is = cc

-- what 'Cells::add' finds of its map m, whose cells are these
module _ {S : Type 0} (m : IndexMap (List ℕ) CellProperties S) (cells : List Declared) (view_is : cells_in m.entries ≡ cells)
    (name : List ℕ) (width : Width) (initial : Initial) where
  pub add_refusal-full : MOST_CELLS ≤ length m.entries
      → add_refusal cells name width initial ≡ Some BadDeclaration
  add_refusal-full full = by (list_any (λ cell. name_eq cell.name name) cells)
    where
      is_full : nat_le MOST_CELLS (length cells) ≡ true
      is_full = rw (← view_is, length-cells_in m.entries) (grind (arith, nat_tests))

      by : (has_name : Bool)
          → (if has_name || nat_le MOST_CELLS (length cells) then Some BadDeclaration
          else option_map_or (λ _. None) (first_contents width initial) (Some BadDeclaration)) ≡ Some BadDeclaration
      by true = refl
      by false = rw is_full refl

  pub add_refusal-taken : is_some (get_by (name_eq name) m) ≡ true
      → add_refusal cells name width initial ≡ Some BadDeclaration
  add_refusal-taken taken =
      let has_name : list_any (λ cell. name_eq cell.name name) cells ≡ true =
      rw (← view_is, has_name-cells_in m.entries name) taken in
      rw has_name refl

  -- where it adds a cell of these contents
  module _ (room : length m.entries < MOST_CELLS) (absent : is_some (get_by (name_eq name) m) ≡ false)
      (e : Refusal) (contents : Option ℕ) (fitted : ok_or (first_contents width initial) e ≡ Ok contents) where
    pub add_refusal-None : add_refusal cells name width initial ≡ None
    add_refusal-None =
        let new : list_any (λ cell. name_eq cell.name name) cells ≡ false =
        rw (← view_is, has_name-cells_in m.entries name) absent in
        let is_full : nat_le MOST_CELLS (length cells) ≡ false =
        rw (← view_is, length-cells_in m.entries) (grind (arith, nat_tests)) in
        rw (new, is_full, some_from (first_contents width initial) e contents fitted) refl

    pub cells_in-insert : (entries : List (List ℕ × CellProperties))
        → entries ≡ insert_entry name_eq m.entries name record { width = width; initial = contents }
        → IsSomeAnd (declared_cell name width initial) (λ cell. cells_in entries ≡ cells ++ cell ∷ [])
    cells_in-insert entries inserted =
        let cell : CellProperties = record { width = width; initial = contents } in
        let fits = some_from (first_contents width initial) e contents fitted in
        let last = insert_entry-new name_eq m name cell (none_from _ absent) in
        rw (fits, inserted, last, ← view_is) (map-append _ m.entries _)
