-- The accesses that words stand for. A load and a store have a value, an atomic memory operation (AMO) has its operand
-- and the old value that it gave, and 'rw' has the old value and the new one. This project's profile.
use Rattle.std.specs.Prelude.{ℕ, List, [], ◌∷◌, Option, None, Some, if◌then◌else◌, option_and_then, codes}
use Rattle.std.specs.Option.{option_map}
use Rattle.std.specs.Str.{bytes_eq}
use Rattle.scm_cells.specs.declared.width.Width.TheVariants.{W, D}
use Rattle.scm_cells.specs.declared.number.Num.{Num}
use Rattle.scm_cells.specs.CellLists.{is_name}
use Rattle.scm_cells.specs.Numbers.{number_of_word}
use Rattle.scm_amo.specs.Amos.{amo_of_name}
use Rattle.scm_lowering.specs.declared.access.Access.{Access}
use Rattle.scm_lowering.specs.declared.access.Access.TheVariants.{Load, Store, Amo, ReadWrite}

-- a word as a name, where it is one
abbrev pub name_of_word : List ℕ → Option (List ℕ)
name_of_word word = if is_name word then Some word else None

-- the access of this word to a cell, with one number
abbrev pub access_of_one : List ℕ → List ℕ → Num → Option Access
access_of_one word cell value =
    if bytes_eq word (codes "lw") then Some (Load W cell value)
    else (if bytes_eq word (codes "ld") then Some (Load D cell value)
    else (if bytes_eq word (codes "sw") then Some (Store W cell value)
    else (if bytes_eq word (codes "sd") then Some (Store D cell value)
    else None)))

-- the access of this word to a cell, with two numbers
abbrev pub access_of_two : List ℕ → List ℕ → Num → Num → Option Access
access_of_two word cell first second =
    if bytes_eq word (codes "rw") then Some (ReadWrite cell first second)
    else option_map (λ amo. Amo amo.0 amo.1 cell first second) (amo_of_name word)

-- the access that these words stand for, if they stand for one
unfoldable pub access_of_words : List (List ℕ) → Option Access
access_of_words (word ∷ cell ∷ value ∷ []) =
    option_and_then (λ c. option_and_then (λ v. access_of_one word c v) (number_of_word value)) (name_of_word cell)
access_of_words (word ∷ cell ∷ first ∷ second ∷ []) =
    option_and_then
    (λ c. option_and_then (λ x. option_and_then (λ y. access_of_two word c x y) (number_of_word second)) (number_of_word first))
    (name_of_word cell)
access_of_words _ = None
