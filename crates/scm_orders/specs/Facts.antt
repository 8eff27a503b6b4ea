-- The lines of a short refutation: the operations that they name, what each says, and their blocks.
use Rattle.std.specs.Prelude.{ℕ, ◌≡◌, ◌≢◌, ◌<◌, ◌≤◌, Option, Some, IsSome, IsSomeAnd, option_and_then, List, [], ◌∷◌, Any, None, slice_get, ◌⊎◌, ◌-◌, length, ⊤}
use Rattle.scm_sequences.specs.declared.op.Op.{Op}
use Rattle.scm_sequences.specs.Sequences.{read_of, written_to, operation}
use Rattle.scm_sequences.specs.Traces.{Trace}
use Rattle.scm_orders.specs.declared.place.Place.{Place}
use Rattle.scm_orders.specs.declared.cut_trace.Reading.{Reading}
use Rattle.std.specs.Option.{option_map}
use Rattle.scm_orders.specs.declared.derivation.Fact.{Fact}
use Rattle.scm_orders.specs.declared.derivation.Fact.TheVariants.{Before, Sees, SeesFirst, Hidden, Unseen, UnseenFirst}
use Rattle.scm_orders.specs.declared.derivation.Line.{Line}
use Rattle.scm_orders.specs.declared.derivation.Rule.{Rule}
use Rattle.scm_orders.specs.declared.derivation.Rule.TheVariants.{Assumed}

-- ==== the operations of a trace, each named by its place, and what they read and write there.

-- it is the other one or stands before it, by the order of their process
pub record IsUpTo (a b : Place) : Type 0 where
  pub process : a.process ≡ b.process
  pub order : a.at ≤ b.at

-- it stands before the other one, by the order of their process
pub record IsEarlier (a b : Place) : Type 0 where
  pub process : a.process ≡ b.process
  pub order : a.at < b.at

-- the operation at a place
abbrev pub operation_at : Trace → Place → Option Op
operation_at t place = operation t.sequences place.process place.at

-- what it read of a cell, and what it wrote to it
abbrev pub read_at : Trace → Place → ℕ → Option ℕ
read_at t place cell = option_and_then (λ op. read_of op cell) (operation_at t place)

abbrev pub written_at : Trace → Place → ℕ → Option ℕ
written_at t place cell = option_and_then (λ op. written_to op cell) (operation_at t place)

-- it read another value of the cell
abbrev pub ReadsOther : Trace → Place → ℕ → ℕ → Type 0
ReadsOther t place cell value = IsSomeAnd (read_at t place cell) (λ other. other ≢ value)

-- the one writes a cell that the other reads
pub record WritesWhatIsRead (t : Trace) (write read : Place) : Type 0 where
  pub cell : ℕ
  pub writes : IsSome (written_at t write cell)
  pub reads : IsSome (read_at t read cell)

-- this is what the operation at the place reads
pub record IsReading (t : Trace) (place : Place) (read : Reading) : Type 0 where
  pub at : read.place ≡ place
  pub reads : read_at t read.place read.cell ≡ Some read.value

-- ==== what the facts of a line's hints show by themselves and by the order of processes.

-- the two operations that the fact puts in an order, if it does
abbrev pub order_of : Fact → Option (Place × Place)
order_of (Before from to) = Some (from, to)
order_of (Sees write read) = Some (write, read)
order_of (SeesFirst read) = None
order_of (Hidden write read) = Some (write, read)
order_of (Unseen write read) = None
order_of (UnseenFirst read) = None

-- the fact puts the one operation before the other, by the order of processes at both ends
abbrev pub Shows : Fact → Place → Place → Type 0
Shows fact from to = IsSomeAnd (order_of fact) (λ order. IsUpTo from order.0 × IsUpTo order.1 to)

-- the fact puts an operation before itself, by the order of processes
abbrev pub IsContradiction : Fact → Type 0
IsContradiction fact = IsSomeAnd (order_of fact) (λ order. IsUpTo order.1 order.0)

-- what the earlier line of this number says
abbrev pub fact_at : List Line → ℕ → Option Fact
fact_at earlier number = option_map (λ line. line.fact) (slice_get earlier number)

-- P holds of what the line of one of the hints says
abbrev pub SomeHint : List Line → List ℕ → (Fact → Type 0) → Type 0
SomeHint earlier hints P = Any (λ hint. IsSomeAnd (fact_at earlier hint) P) hints

-- the one operation stands before the other, by the order of their process or by a hint
abbrev pub IsBefore : List Line → List ℕ → Place → Place → Type 0
IsBefore earlier hints from to = IsEarlier from to ⊎ SomeHint earlier hints (λ fact. Shows fact from to)

-- the hints lead from the one operation to the other, one after the other, by the order of processes between them
abbrev pub Leads : List Line → List ℕ → Place → Place → Type 0
Leads earlier [] from to = IsUpTo from to
Leads earlier (hint ∷ hints) from to = IsSomeAnd (option_and_then order_of (fact_at earlier hint)) (λ order. IsUpTo from order.0 × Leads earlier hints order.1 to)

-- so they do, and without hints the operations are two of one process
abbrev pub IsJoined : List Line → List ℕ → Place → Place → Type 0
IsJoined earlier [] from to = IsEarlier from to
IsJoined earlier (hint ∷ hints) from to = Leads earlier (hint ∷ hints) from to

-- ==== blocks of lines: each begins with its assumptions, and ends at its first contradiction.

abbrev pub IsAssumed : Rule → Type 0
IsAssumed Assumed = ⊤
IsAssumed _ = ⊥

-- the line leaves its block open
pub record LeavesBlockOpen (line : Line) : Type 0 where
  pub inside : IsSome line.block
  pub goes_on : IsContradiction line.fact → ⊥

-- the block of line k where none is open: where it is assumed it begins one
abbrev pub opened : ℕ → Rule → Option ℕ
opened k Assumed = Some k
opened k _ = None

-- the line goes on with the block of the line before it; where it is assumed, so is that
pub record GoesOn (before line : Line) : Type 0 where
  pub same : line.block ≡ before.block
  pub assumes : IsAssumed line.rule → IsAssumed before.rule

-- line k stands where it is to stand, behind this line
abbrev pub IsBehind : ℕ → Option Line → Line → Type 0
IsBehind k None line = line.block ≡ opened k line.rule
IsBehind k (Some before) line = (LeavesBlockOpen before × GoesOn before line) ⊎ ((LeavesBlockOpen before → ⊥) × line.block ≡ opened k line.rule)

-- the line behind the earlier ones does
abbrev pub IsPlaced : List Line → Line → Type 0
IsPlaced earlier line = IsBehind (length earlier) (slice_get earlier (length earlier - 1)) line

-- a line of the one block can be named in the other
abbrev pub IsVisible : Option ℕ → Option ℕ → Type 0
IsVisible one other = (one ≡ None) ⊎ (one ≡ other)
