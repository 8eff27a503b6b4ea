-- Traces, their fronts, when a front is legal, and what it fixes of open cells.
use Rattle.std.specs.Prelude.{ℕ, List, Option, None, slice_index_or, ◌≡◌, ◌≤◌, [], ◌∷◌, ◌==◌, ⊤, count_by, map, length, IsTrue, IsSomeAnd, ◌<◌, ◌^◌, Some, IfSome, is_none, if◌then◌else◌, filter_map, All}
use Rattle.scm_sequences.specs.declared.op.Op.{Op}
use Rattle.scm_sequences.specs.Sequences.{cut_lists, read_of, written_to, finds, operation, operations, lengths_of}
use Rattle.std.specs.Option.{option_or, option_and_then, option_map, unwrap_or}
use Rattle.std.specs.List.{range_with_len}

-- ---- a trace: cells with their first contents, and a sequence of operations for each process.
-- (Gibbons and Korach 1997: an instance of the problem VSC. Open contents are this project's own.)

pub record Trace : Type 0 where
  -- for each cell the value that it holds at first, or None where that is open
  pub initials : List (Option ℕ)
  pub sequences : List (List Op)

-- the trace of these cells and sequences
abbrev pub trace_of : List (Option ℕ) → List (List Op) → Trace
trace_of initials sequences = record { initials = initials; sequences = sequences }

-- what cell c holds at first
abbrev pub initial_of : Trace → ℕ → Option ℕ
initial_of t c = slice_index_or t.initials c None

-- the trace that keeps of each process as many of its first operations as these counts say
abbrev pub cut_to : Trace → List ℕ → Trace
cut_to t lengths = trace_of t.initials (cut_lists t.sequences lengths)

-- ---- fronts and schedules of a trace, and when they are legal.
-- (Gibbons and Korach 1997: an interleaving of all sequences that keeps each process's order, in which every
-- read of a variable gives the value of the last earlier write to it, or its initial value. Open contents are this
-- project's own.)
--
-- A front is a list of process numbers, in which the k-th p stands for the k-th operation of p. It is written
-- newest first: 'p ∷ earlier' is the front 'earlier' and then one more operation of p.

-- how often p occurs in a front
unfoldable pub count_in : List ℕ → ℕ → ℕ
count_in front p = count_by (λ q. q == p) front

-- the counts of all processes
abbrev pub counts_of : Trace → List ℕ → List ℕ
counts_of t front = map (count_in front) (range_with_len 0 (length t.sequences))

-- each process occurs at most as often as it has operations
abbrev pub IsFront : Trace → List ℕ → Type 0
IsFront t front = (p : ℕ) → count_in front p ≤ length (operations t.sequences p)

-- the operation of p that comes next after a front
abbrev pub following : Trace → List ℕ → ℕ → Option Op
following t front p = operation t.sequences p (count_in front p)

-- what the last place of the front that writes cell c wrote there
unfoldable pub last_written : Trace → List ℕ → ℕ → Option ℕ
last_written t [] c = None
last_written t (p ∷ earlier) c =
    option_or (option_and_then (λ op. written_to op c) (following t earlier p)) (last_written t earlier c)

-- what the first place of the front that reads cell c read there
unfoldable pub first_read : Trace → List ℕ → ℕ → Option ℕ
first_read t [] c = None
first_read t (p ∷ earlier) c =
    option_or (first_read t earlier c) (option_and_then (λ op. read_of op c) (following t earlier p))

-- the value of cell c before the place that comes after a front: what was written last; else what the cell
-- held at first; else what was read of it first; None where all of these leave it open
unfoldable pub value_before : Trace → List ℕ → ℕ → Option ℕ
value_before t front c = option_or (last_written t front c) (option_or (initial_of t c) (first_read t front c))

-- each place of the front is an operation of its process, and one that reads a cell read the value before it, where that isn't open
unfoldable pub IsLegal : Trace → List ℕ → Type 0
IsLegal t [] = ⊤
IsLegal t (p ∷ earlier) =
    IsLegal t earlier × IsSomeAnd (following t earlier p) (λ op. IsTrue (finds op (value_before t earlier)))

-- a legal front that has every operation of every process once
pub record IsSchedule (t : Trace) (front : List ℕ) : Type 0 where
  pub legal : IsLegal t front
  pub whole : counts_of t front ≡ lengths_of t.sequences

-- sequentially consistent: there is a legal schedule
pub record IsConsistent (t : Trace) : Type 0 where
  pub schedule : List ℕ
  pub is_schedule : IsSchedule t schedule

-- ---- cells whose first contents aren't known: what a front tells of them, and traces with values chosen for them.
-- (This project's own.)
--
-- Such a cell is unset: its first contents are open. Fronts are written newest first.

-- what the first place of the front that reads cell c, with no earlier write to it, read there
unfoldable pub unwritten_read : Trace → List ℕ → ℕ → Option ℕ
unwritten_read t [] c = None
unwritten_read t (p ∷ earlier) c =
    option_or (unwritten_read t earlier c)
    (if is_none (last_written t earlier c) then option_and_then (λ op. read_of op c) (following t earlier p) else None)

-- the value that the front fixes for cell c, where that is unset
abbrev pub fixed_value : Trace → List ℕ → ℕ → Option ℕ
fixed_value t front c = if is_none (initial_of t c) then unwritten_read t front c else None

-- each unset cell for which the front fixes a value, with that value, in the order of the cells
abbrev pub fixed_values : Trace → List ℕ → List (ℕ × ℕ)
fixed_values t front =
    filter_map (λ c. option_map (λ value. (c, value)) (fixed_value t front c)) (range_with_len 0 (length t.initials))

-- the trace in which each unset cell holds at first the value that is chosen for it
abbrev pub given : Trace → (ℕ → ℕ) → Trace
given t chosen = trace_of (map (λ c. Some (unwrap_or (initial_of t c) (chosen c))) (range_with_len 0 (length t.initials))) t.sequences

-- each of these cells has the value beside it chosen for it
abbrev pub Agrees : (ℕ → ℕ) → List (ℕ × ℕ) → Type 0
Agrees chosen values = All (λ item. chosen item.0 ≡ item.1) values

-- the cells have so many bits, and what an operation reads of one has no more
abbrev pub ReadsFit : Trace → (ℕ → ℕ) → Type 0
ReadsFit t bits =
    (p k c : ℕ) → IfSome (option_and_then (λ op. read_of op c) (operation t.sequences p k)) (λ value. value < 2 ^ bits c)

-- what is chosen for a cell has no more either
abbrev pub ChosenFit : (ℕ → ℕ) → (ℕ → ℕ) → Type 0
ChosenFit chosen bits = (c : ℕ) → chosen c < 2 ^ bits c
