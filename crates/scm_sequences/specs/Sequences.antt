-- Operations, the lists of them that a trace has, and refusals.
use Rattle.std.specs.Prelude.{ℕ, ◌<◌, List, Option, None, Some, Bool, true, ◌==◌, if◌then◌else◌, All, ◌≤◌, [], ◌∷◌, ◌++◌, length, map, take, option_and_then, slice_get, slice_index_or, slice_set, nat_lt, ◌≡◌, slice_index, ◌⊎◌, codes}
use Rattle.scm_sequences.specs.declared.op.Op.{Op}
use Rattle.scm_sequences.specs.declared.op.Op.TheVariants.{R, W, Rw}
use Rattle.scm_sequences.specs.declared.refusal.Refusal.{Refusal}
use Rattle.scm_sequences.specs.declared.refusal.Refusal.TheVariants.{NoSuchProcess, SequenceFull, BadLine, NoSuchTrace, NameTaken, TooManyTraces, BadDeclaration, ProcessTaken, NotClaimed, NotOwner, NoSuchCell, WidthMismatch, ValueOutOfRange, NoSuchMark, TooManyMarks, BadBudget, JournalFull, NoMemory, TooManySessions}
use Rattle.scm_sequences.specs.declared.limits.TheConstants.{MOST_OPERATIONS, MOST_PROCESSES}

-- ---- what an operation reads and writes. The operations are those of Gibbons and Korach, "Testing Shared
-- Memories", 1997: R(a, d) reads d from a, W(a, d) writes d to a, RW(a, d, e) reads d and writes e in one step.

-- the one cell that the operation is about
abbrev pub cell_of : Op → ℕ
cell_of (R c d) = c
cell_of (W c d) = c
cell_of (Rw c d e) = c

-- what the operation read of cell a, where it read it
abbrev pub read_of : Op → ℕ → Option ℕ
read_of (R c d) a = if c == a then Some d else None
read_of (W c d) a = None
read_of (Rw c d e) a = if c == a then Some d else None

-- what the operation wrote to cell a, where it wrote it
abbrev pub written_to : Op → ℕ → Option ℕ
written_to (R c d) a = None
written_to (W c d) a = if c == a then Some d else None
written_to (Rw c d e) a = if c == a then Some e else None

-- what its cell holds after the operation: what it wrote, or what it read
abbrev pub value_after : Op → ℕ
value_after (R c d) = d
value_after (W c d) = d
value_after (Rw c d e) = e

-- whether a cell that holds this, or is open, may give d to a read
abbrev pub may_give : Option ℕ → ℕ → Bool
may_give None d = true
may_give (Some v) d = v == d

-- whether the operation reads nothing, or finds what it read: its cell holds that value or is open
abbrev pub finds : Op → (ℕ → Option ℕ) → Bool
finds (R c d) value = may_give (value c) d
finds (W c d) value = true
finds (Rw c d e) value = may_give (value c) d

-- every operation names a cell below n
abbrev pub NamesCellsBelow : ℕ → List (List Op) → Type 0
NamesCellsBelow n sequences = All (λ ops. All (λ op. cell_of op < n) ops) sequences

-- ---- sequences of operations, one list for each process.

-- the operations of process p, none where there is no such process
abbrev pub operations : List (List Op) → ℕ → List Op
operations sequences p = slice_index_or sequences p []

-- the operation at place k of process p
abbrev pub operation : List (List Op) → ℕ → ℕ → Option Op
operation sequences p k = option_and_then (λ ops. slice_get ops k) (slice_get sequences p)

-- how many operations each process has
abbrev pub lengths_of : List (List Op) → List ℕ
lengths_of sequences = map length sequences

-- one more operation stands last in the sequence of p
abbrev pub pushed : List (List Op) → ℕ → Op → List (List Op)
pushed sequences p op = slice_set sequences p (operations sequences p ++ op ∷ [])

-- why no operation can be added to the sequence of p, if so
abbrev pub push_refusal : List (List Op) → ℕ → Option Refusal
push_refusal sequences p =
    if nat_lt p (length sequences) then
    (if nat_lt (length (operations sequences p)) MOST_OPERATIONS then None else Some SequenceFull)
    else Some NoSuchProcess

-- the first operations of each process, as many as these counts say
abbrev pub cut_lists : List (List Op) → List ℕ → List (List Op)
cut_lists [] lengths = []
cut_lists (ops ∷ others) [] = [] ∷ cut_lists others []
cut_lists (ops ∷ others) (n ∷ lengths) = take n ops ∷ cut_lists others lengths

-- what holds of the sequences of every trace: there are 1 to MOST_PROCESSES, none longer than MOST_OPERATIONS
pub record AreSequences (sequences : List (List Op)) : Type 0 where
  pub some : 0 < length sequences
  pub procs : length sequences ≤ MOST_PROCESSES
  pub short : All (λ ops. length ops ≤ MOST_OPERATIONS) sequences

-- ---- counts of operations, one for each process.

-- counts of as many processes, none greater
pub record IsWithin (counts lengths : List ℕ) : Type 0 where
  pub procs : length counts ≡ length lengths
  pub none_greater : (p : ℕ) → slice_index counts p ≤ slice_index lengths p

-- ---- the refusals: their numbers and texts, and what a call that may be refused answers. This project's profile.

abbrev pub refusal_number : Refusal → ℕ
refusal_number BadLine = 1
refusal_number NoSuchTrace = 2
refusal_number NameTaken = 3
refusal_number TooManyTraces = 4
refusal_number BadDeclaration = 5
refusal_number NoSuchProcess = 6
refusal_number ProcessTaken = 7
refusal_number NotClaimed = 8
refusal_number NotOwner = 9
refusal_number NoSuchCell = 10
refusal_number WidthMismatch = 11
refusal_number ValueOutOfRange = 12
refusal_number SequenceFull = 13
refusal_number NoSuchMark = 14
refusal_number TooManyMarks = 15
refusal_number BadBudget = 16
refusal_number JournalFull = 17
refusal_number NoMemory = 18
refusal_number TooManySessions = 19

abbrev pub refusal_text : Refusal → List ℕ
refusal_text BadLine = codes "bad-line"
refusal_text NoSuchTrace = codes "no-such-trace"
refusal_text NameTaken = codes "name-taken"
refusal_text TooManyTraces = codes "too-many-traces"
refusal_text BadDeclaration = codes "bad-declaration"
refusal_text NoSuchProcess = codes "no-such-process"
refusal_text ProcessTaken = codes "process-taken"
refusal_text NotClaimed = codes "not-claimed"
refusal_text NotOwner = codes "not-owner"
refusal_text NoSuchCell = codes "no-such-cell"
refusal_text WidthMismatch = codes "width-mismatch"
refusal_text ValueOutOfRange = codes "value-out-of-range"
refusal_text SequenceFull = codes "sequence-full"
refusal_text NoSuchMark = codes "no-such-mark"
refusal_text TooManyMarks = codes "too-many-marks"
refusal_text BadBudget = codes "bad-budget"
refusal_text JournalFull = codes "journal-full"
refusal_text NoMemory = codes "no-memory"
refusal_text TooManySessions = codes "too-many-sessions"

-- a call whose first cause of refusal is this, or none, may answer with the refusal e:
-- that very one, or in its place that memory was refused
abbrev pub Refuses : Option Refusal → Refusal → Type 0
Refuses first e = (first ≡ Some e) ⊎ (e ≡ NoMemory)
