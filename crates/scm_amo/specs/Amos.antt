-- The eighteen atomic memory operations (AMOs) and their names. RISC-V Unprivileged ISA 20191213, chapter "A".
use Rattle.std.specs.Prelude.{ℕ, List, [], ◌∷◌, ◌++◌, Bool, Option, find, codes}
use Rattle.std.specs.List.{list_any, flat_map}
use Rattle.std.specs.Str.{bytes_eq}
use Rattle.scm_cells.specs.declared.width.Width.{Width}
use Rattle.scm_cells.specs.declared.width.Width.TheVariants.{W, D}
use Rattle.scm_amo.specs.declared.kind.AmoKind.{AmoKind}
use Rattle.scm_amo.specs.declared.kind.AmoKind.TheVariants.{Swap, Add, And, Or, Xor, Max, Min, MaxU, MinU}

abbrev pub kinds : List AmoKind
kinds = Swap ∷ Add ∷ And ∷ Or ∷ Xor ∷ Max ∷ Min ∷ MaxU ∷ MinU ∷ []

-- each kind on words, and then on doublewords
abbrev pub amos : List (AmoKind × Width)
amos = flat_map (λ kind. (kind, W) ∷ (kind, D) ∷ []) kinds

abbrev pub kind_name : AmoKind → List ℕ
kind_name Swap = codes "amoswap"
kind_name Add = codes "amoadd"
kind_name And = codes "amoand"
kind_name Or = codes "amoor"
kind_name Xor = codes "amoxor"
kind_name Max = codes "amomax"
kind_name Min = codes "amomin"
kind_name MaxU = codes "amomaxu"
kind_name MinU = codes "amominu"

abbrev pub width_name : Width → List ℕ
width_name W = codes ".w"
width_name D = codes ".d"

abbrev pub amo_name : AmoKind → Width → List ℕ
amo_name kind width = kind_name kind ++ width_name width

-- what may follow a name: no ordering, acquire, release, or both
abbrev pub orderings : List (List ℕ)
orderings = [] ∷ codes ".aq" ∷ codes ".rl" ∷ codes ".aqrl" ∷ []

-- whether the word is the name, with one of the orderings
unfoldable pub is_spelled : List ℕ → List ℕ → Bool
is_spelled name word = list_any (λ ordering. bytes_eq word (name ++ ordering)) orderings

-- the AMO that a word names, if it names one
unfoldable pub amo_of_name : List ℕ → Option (AmoKind × Width)
amo_of_name word = find (λ amo. is_spelled (amo_name amo.0 amo.1) word) amos
