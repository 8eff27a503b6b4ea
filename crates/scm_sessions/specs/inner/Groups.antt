-- The lines of a script in groups by the names that they begin with. This project's profile.
use Rattle.std.specs.Prelude.{ℕ, ◌≡◌, List, [], ◌∷◌, ◌++◌, length, fold, map, flat_map, Bool, if◌then◌else◌, Option}
use Rattle.std.specs.List.{list_any}
use Rattle.std.specs.Option.{option_eq}
use Rattle.std.specs.Io.KnownBytes.{Consumes, IsAtEnd}
use Rattle.scm_cells.specs.CellLists.{name_eq}
use Rattle.scm_sessions.specs.declared.findings.Findings.{Findings}
use Rattle.scm_sessions.specs.Asking.{Line, lines_of, whole_lines_of, name_in, asked_by}
use Rattle.scm_sessions.specs.inner.Numbered.{Numbered, numbered, numbered_in, replied}
use Rattle.scm_sessions.specs.inner.Findings.{unanswered}

pub record GroupData : Type 0 where
  -- the name, None for lines without one
  pub name : Option (List ℕ)
  -- its lines, in order
  pub lines : List Numbered

abbrev pub group : Option (List ℕ) → List Numbered → GroupData
group name lines = record { name = name; lines = lines }

-- whether a group has this name
abbrev pub has_name : Option (List ℕ) → GroupData → Bool
has_name name group = option_eq name_eq name group.name

-- the groups with one line more: it stands last in the group of its name, or in a new group, which is the last one
abbrev pub with_numbered : List GroupData → Numbered → List GroupData
with_numbered [] line = group (name_in line.asked) (line ∷ []) ∷ []
with_numbered (first ∷ groups) line =
    if has_name (name_in line.asked) first then group first.name (first.lines ++ line ∷ []) ∷ groups
    else first ∷ with_numbered groups line

-- the groups of lines, in the order in which lines first have their names
abbrev pub groups_of : List Numbered → List GroupData
groups_of lines = fold with_numbered [] lines

-- the lines, one group after the other
abbrev pub grouped : List Numbered → List Numbered
grouped lines = flat_map (λ group. group.lines) (groups_of lines)

-- ---- what reading a script does to a reader whose bytes are known

-- the whole script was read, these are the groups of its lines, and they were counted
pub record GroupsWhole (script left : Option (List ℕ)) (groups : List GroupData) (found : Findings) : Type 0 where
  pub bytes : List ℕ
  pub consumed : Consumes script left bytes
  pub ended : IsAtEnd left
  pub grouped : groups ≡ groups_of (numbered_in (lines_of bytes))
  pub counted : found ≡ unanswered (length (lines_of bytes))

-- a part of the script was read, and these are the groups of its whole lines
pub record GroupsWholeLines (script left : Option (List ℕ)) (groups : List GroupData) : Type 0 where
  pub bytes : List ℕ
  pub consumed : Consumes script left bytes
  pub grouped : groups ≡ groups_of (numbered_in (whole_lines_of bytes))

-- ---- line by line

-- the groups, with one of this name among them
abbrev pub with_group : List GroupData → Option (List ℕ) → List GroupData
with_group groups name = if list_any (has_name name) groups then groups else groups ++ group name [] ∷ []

-- the groups with one line more, which has this number, where it has a reply
abbrev pub with_next : List GroupData → ℕ → Line → List GroupData
with_next groups number line = fold with_numbered groups (replied (numbered number (asked_by line) ∷ []))

abbrev pub group_names : List GroupData → List (Option (List ℕ))
group_names groups = map (λ group. group.name) groups
