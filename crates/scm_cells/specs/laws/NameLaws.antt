-- The laws of names, and what a map with names as its keys finds.
use Rattle.std.specs.Prelude.{◌≡◌, ℕ, ◌-◌, List, [], ◌∷◌, ◌++◌, length, take, map, replicate, is_some, position, Decides}
use Rattle.std.specs.List.{list_any, position_or_len}
use Rattle.std.specs.Map.{lookup, keys_of}
use Rattle.std.specs.Cmp.Lexicographic.{pointwise_decides}
use Rattle.std.proofs.Common.{◌∙◌, refl, sym, arith}
use Rattle.std.proofs.lemmas.Bool.Decides.{Decides-eqb, Decides-like, same_from_decides}
use Rattle.std.proofs.lemmas.List.{length-map, length-take-le, take-append-drop}
use Rattle.std.proofs.lemmas.Map.Made.{is_some-lookup}
use Rattle.scm_sequences.specs.declared.limits.TheConstants.{LONGEST_NAME}
use Rattle.scm_cells.specs.CellLists.{name_eq, IsPaddedName}

pub name_eq-Decides : (a b : List ℕ) → Decides (name_eq a b) (a ≡ b)
name_eq-Decides = pointwise_decides Decides-eqb

pub name_eq-sym : (a b : List ℕ) → name_eq a b ≡ name_eq b a
name_eq-sym a b =
    let turned = Decides-like (name_eq b a) sym sym (name_eq-Decides b a) in
    same_from_decides (name_eq a b) (name_eq b a) (name_eq-Decides a b) turned

-- a name's length and the bytes that it is kept as follow from the name
pub length-padded : (bytes : List ℕ) (len : ℕ) → IsPaddedName bytes len → length (take len bytes) ≡ len
length-padded bytes len h = length-take-le len bytes (omega (arith, h.room, h.fits))

pub take-padded : (bytes : List ℕ) (len : ℕ) → IsPaddedName bytes len
    → take len bytes ++ replicate (LONGEST_NAME - length (take len bytes)) 0 ≡ bytes
take-padded bytes len h = rw (length-padded bytes len h, ← h.rest) (take-append-drop len bytes)

-- a list that is made of a map's entries, each with the name that is its key
module _ {X Y : Type 0} (made : List ℕ × X → Y) (name_of : Y → List ℕ)
    (named : (e : List ℕ × X) → name_of (made e) ≡ e.0) (name : List ℕ) where
  same_test : (e : List ℕ × X) → name_eq (name_of (made e)) name ≡ name_eq name e.0
  same_test e = rw (named e) (name_eq-sym e.0 name)

  position_or_len-named : (es : List (List ℕ × X))
      → position_or_len (λ y. name_eq (name_of y) name) (map made es) ≡ position_or_len (name_eq name) (keys_of es)
  position_or_len-named [] = refl
  position_or_len-named (e ∷ es) = rw (same_test e, position_or_len-named es) refl

  -- the place of a name in the list is its place in the map
  pub position-named : (es : List (List ℕ × X))
      → position (λ y. name_eq (name_of y) name) (map made es) ≡ position (name_eq name) (keys_of es)
  position-named es = rw (position_or_len-named es, length-map es made, length-map es (λ e. e.0)) refl

  -- a name is in the list exactly where the map has it
  pub list_any-named : (es : List (List ℕ × X))
      → list_any (λ y. name_eq (name_of y) name) (map made es) ≡ is_some (lookup (name_eq name) es)
  list_any-named es = by es ∙ sym (is_some-lookup (name_eq name) es)
    where
      by : (es : List (List ℕ × X))
          → list_any (λ y. name_eq (name_of y) name) (map made es) ≡ list_any (name_eq name) (keys_of es)
      by [] = refl
      by (e ∷ es) = rw (same_test e, by es) refl
