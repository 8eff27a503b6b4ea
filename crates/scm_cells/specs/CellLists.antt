-- Names, what cells hold at first, and the cells of a trace in their order. This project's profile.
use Rattle.std.specs.Prelude.{◌≡◌, ◌≤◌, ℕ, ◌-◌, List, length, take, drop, replicate, Bool, ◌&&◌, ◌||◌, ◌==◌, nat_le, IsTrue, codes, nat_eq, if◌then◌else◌, Option, None, Some, option_map, ◌<◌, ◌≢◌, map, All, AllPairs, IfSome, position}
use Rattle.std.specs.List.{list_all, list_any}
use Rattle.std.specs.Cmp.Lexicographic.{pointwise}
use Rattle.scm_sequences.specs.declared.limits.TheConstants.{LONGEST_NAME, MOST_CELLS}
use Rattle.scm_cells.specs.declared.initial.Initial.{Initial}
use Rattle.scm_cells.specs.declared.initial.Initial.TheVariants.{Given, Unset}
use Rattle.scm_cells.specs.declared.width.Width.{Width}
use Rattle.scm_cells.specs.Numbers.{number_of_word, value_of_number, values_of}
use Rattle.std.specs.Option.{option_map_or}
use Rattle.scm_sequences.specs.declared.refusal.Refusal.{Refusal}
use Rattle.scm_sequences.specs.declared.refusal.Refusal.TheVariants.{BadDeclaration}
use Rattle.scm_cells.specs.declared.cells.CellProperties.{CellProperties}

-- ---- names of traces, sessions and cells: 1 to LONGEST_NAME bytes of a-z 0-9 _ -. This project's profile.

-- a small letter, a digit, '_' or '-'
abbrev pub is_name_byte : ℕ → Bool
is_name_byte b = (nat_le 97 b && nat_le b 122) || (nat_le 48 b && nat_le b 57) || b == 95 || b == 45

abbrev pub is_name : List ℕ → Bool
is_name word = nat_le 1 (length word) && nat_le (length word) LONGEST_NAME && list_all is_name_byte word

-- whether two names are the same bytes
abbrev pub name_eq : List ℕ → List ℕ → Bool
name_eq = pointwise ◌==◌

-- these bytes are a name of this length, and zeros from its end to LONGEST_NAME
pub record IsPaddedName (bytes : List ℕ) (len : ℕ) : Type 0 where
  pub room : length bytes ≡ LONGEST_NAME
  pub fits : len ≤ LONGEST_NAME
  pub rest : drop len bytes ≡ replicate (LONGEST_NAME - len) 0
  pub name : IsTrue (is_name (take len bytes))

-- ---- what a cell is declared to hold at first: a number, or '?' where that isn't known. This project's profile.

-- the word '?' alone leaves a cell unset; any other must be a number
abbrev pub initial_of_word : List ℕ → Option Initial
initial_of_word word =
    if pointwise nat_eq word (codes "?") then Some Unset else option_map Given (number_of_word word)

-- what a cell of this width holds at first, None where it is unset; there is no answer where a given number doesn't fit
abbrev pub first_contents : Width → Initial → Option (Option ℕ)
first_contents width (Given number) = option_map Some (value_of_number width number)
first_contents width Unset = Some None

-- ---- the cells of a trace, in the order of their declaration.

-- a cell's name, its width, and what it holds at first, None where that is open
pub record Declared : Type 0 where
  pub name : List ℕ
  pub width : Width
  pub initial : Option ℕ

-- the number of the cell of this name
abbrev pub cell_named : List Declared → List ℕ → Option ℕ
cell_named cells name = position (λ cell. name_eq cell.name name) cells

-- what the cells hold at first
abbrev pub initials_of : List Declared → List (Option ℕ)
initials_of cells = map (λ cell. cell.initial) cells

-- the cell of this name, width and declared contents, None where a given number doesn't fit the width
abbrev pub declared_cell : List ℕ → Width → Initial → Option Declared
declared_cell name width initial =
    option_map (λ contents. record { name = name; width = width; initial = contents }) (first_contents width initial)

-- why a cell can't be added, if so: its name is there, all cells are there, or a given number doesn't fit
abbrev pub add_refusal : List Declared → List ℕ → Width → Initial → Option Refusal
add_refusal cells name width initial =
    if list_any (λ cell. name_eq cell.name name) cells || nat_le MOST_CELLS (length cells) then Some BadDeclaration
    else option_map_or (λ _. None) (first_contents width initial) (Some BadDeclaration)

-- an initial value below the limit of its width, where it isn't open
abbrev pub HasValueInWidth : Declared → Type 0
HasValueInWidth cell = IfSome cell.initial (λ value. value < values_of cell.width)

-- what holds of the cells of every trace: at most MOST_CELLS, of different names, each with a value of its width
pub record AreCells (cells : List Declared) : Type 0 where
  pub most : length cells ≤ MOST_CELLS
  pub different : AllPairs (λ a b. a.name ≢ b.name) cells
  pub values : All HasValueInWidth cells

-- ---- the entries of a map from names, as cells.

-- the cells of these entries, in their order
abbrev pub cells_in : List (List ℕ × CellProperties) → List Declared
cells_in entries = map (λ e. record { name = e.0; width = e.1.width; initial = e.1.initial }) entries
