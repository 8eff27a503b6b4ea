-- When a line follows, and when lines refute a trace.
use Rattle.std.specs.Prelude.{ℕ, ◌≡◌, ◌≢◌, ◌⊎◌, List, Some, IsSome, IsSomeAnd, ⊤, ◌+◌, ◌-◌, ◌<◌, length, drop, slice_get, slice_range, ◌≤◌, All, Option, take, None}
use Rattle.scm_sequences.specs.Traces.{Trace, initial_of}
use Rattle.scm_orders.specs.declared.place.Place.{Place}
use Rattle.scm_orders.specs.declared.cut_trace.Reading.{Reading}
use Rattle.scm_orders.specs.declared.derivation.Fact.{Fact}
use Rattle.scm_orders.specs.declared.derivation.Fact.TheVariants.{Before, Sees, SeesFirst, Hidden, Unseen, UnseenFirst}
use Rattle.scm_orders.specs.declared.derivation.Line.{Line}
use Rattle.scm_orders.specs.declared.candidates.Left.{Left}
use Rattle.scm_orders.specs.declared.candidates.Left.TheVariants.{Write, First, After, Before as Until}
use Rattle.scm_orders.specs.Facts.{IsUpTo, IsEarlier, written_at, ReadsOther, IsReading, order_of, Shows, SomeHint, IsContradiction, IsAssumed, operation_at, WritesWhatIsRead, IsBefore, IsJoined, IsPlaced, IsVisible}
use Rattle.scm_orders.specs.declared.derivation.Rule.{Rule}
use Rattle.scm_orders.specs.declared.derivation.Rule.TheVariants.{Joined, Hidden as HiddenBy, Source, AfterAll, BeforeAll, AfterSource, Assumed, Lemma}
use Rattle.scm_orders.specs.declared.derivation.TheConstants.{MOST_HINTS}

-- ==== what a read can see: each write of its value to its cell, and first contents. Hints rule these out one by one.

-- ---- what a hint rules out

-- the fact puts a write of the cell, later in the process of the write, before the read
abbrev pub Overwrites : Trace → Fact → Reading → Place → Type 0
Overwrites t fact read write = IsSomeAnd (order_of fact) (λ order. IsEarlier write order.0 × IsSome (written_at t order.0 read.cell) × IsUpTo order.1 read.place)

-- the fact says that the read doesn't see the write, or sees something else, or that the write or a later one of its process
-- is hidden from it
abbrev pub Denies : Fact → Place → Place → Type 0
Denies (Before from to) read write = ⊥
Denies (Sees seen by) read write = (by ≡ read) × (seen ≢ write)
Denies (SeesFirst by) read write = by ≡ read
Denies (Hidden hidden from) read write = (from ≡ read) × IsUpTo write hidden
Denies (Unseen unseen by) read write = (by ≡ read) × (unseen ≡ write)
Denies (UnseenFirst by) read write = ⊥

-- by the fact the read doesn't see the write
abbrev pub RulesOut : Trace → Fact → Reading → Place → Type 0
RulesOut t fact read write = Shows fact read.place write ⊎ Overwrites t fact read write ⊎ Denies fact read.place write

-- the fact puts a write of the cell before the read
abbrev pub PutsWriteBefore : Trace → Fact → Reading → Type 0
PutsWriteBefore t fact read = IsSomeAnd (order_of fact) (λ order. IsSome (written_at t order.0 read.cell) × IsUpTo order.1 read.place)

-- the fact says so, or that an operation which sees first contents read another value of the cell
abbrev pub DeniesFirst : Trace → Fact → Reading → Type 0
DeniesFirst t (Before from to) read = ⊥
DeniesFirst t (Sees write by) read = ⊥
DeniesFirst t (SeesFirst by) read = ReadsOther t by read.cell read.value
DeniesFirst t (Hidden write from) read = ⊥
DeniesFirst t (Unseen write by) read = ⊥
DeniesFirst t (UnseenFirst by) read = by ≡ read.place

-- by the fact the read doesn't see first contents
abbrev pub RulesOutFirst : Trace → Fact → Reading → Type 0
RulesOutFirst t fact read = PutsWriteBefore t fact read ⊎ DeniesFirst t fact read

-- there is a read at the place, which by the fact doesn't see the write, or first contents
abbrev pub IsRuledOut : Trace → Fact → Place → Place → Type 0
IsRuledOut t fact place write = (read : Reading) × IsReading t place read × RulesOut t fact read write

abbrev pub IsRuledOutFirst : Trace → Fact → Place → Type 0
IsRuledOutFirst t fact place = (read : Reading) × IsReading t place read × RulesOutFirst t fact read

-- ---- what is left

-- what is left has first contents
abbrev pub HasFirst : Left → Type 0
HasFirst (Write only) = ⊥
HasFirst First = ⊤
HasFirst (After from) = ⊥
HasFirst (Until to) = ⊤

-- it has this write, by the order of processes
abbrev pub Has : Left → Place → Type 0
Has (Write only) write = write ≡ only
Has First write = ⊥
Has (After from) write = IsUpTo from write
Has (Until to) write = IsEarlier write to

-- it has this write by the fact
abbrev pub HasBy : Left → Fact → Place → Type 0
HasBy (Write only) fact write = ⊥
HasBy First fact write = ⊥
HasBy (After from) fact write = Shows fact from write
HasBy (Until to) fact write = Shows fact write to

-- where the operation writes the read's value to the cell, it is the read or behind it in one process, or is left, or a hint
-- rules it out or shows that it is left
abbrev pub IsSettled : Trace → List Line → List ℕ → Reading → Left → Place → Type 0
IsSettled t earlier hints read left write =
    written_at t write read.cell ≡ Some read.value → IsUpTo read.place write ⊎ Has left write ⊎ SomeHint earlier hints (λ fact. RulesOut t fact read write ⊎ HasBy left fact write)

-- first contents are left, or another value, or a hint rules them out
abbrev pub IsFirstSettled : Trace → List Line → List ℕ → Reading → Left → Type 0
IsFirstSettled t earlier hints read left =
    HasFirst left ⊎ IsSomeAnd (initial_of t read.cell) (λ first. first ≢ read.value) ⊎ SomeHint earlier hints (λ fact. RulesOutFirst t fact read)

-- nothing but this is left for the read to see
pub record LeavesOnly (t : Trace) (earlier : List Line) (hints : List ℕ) (left : Left) (read : Reading) : Type 0 where
  pub writes : (write : Place) → IsSettled t earlier hints read left write
  pub first : IsFirstSettled t earlier hints read left

-- the operation at the place reads, and nothing but this is left for it to see
abbrev pub Leaves : Trace → List Line → List ℕ → Place → Left → Type 0
Leaves t earlier hints place left = (read : Reading) × IsReading t place read × LeavesOnly t earlier hints left read

-- ==== what is left of a block that has ended: not all of its assumptions hold.

-- in each schedule just one of the two facts is so
abbrev pub Negates : Fact → Fact → Type 0
Negates (Before from to) other = (from ≢ to) × other ≡ Before to from
Negates (Sees write read) other = other ≡ Unseen write read
Negates (SeesFirst read) other = other ≡ UnseenFirst read
Negates (Hidden write read) other = ⊥
Negates (Unseen write read) other = other ≡ Sees write read
Negates (UnseenFirst read) other = other ≡ SeesFirst read

-- where the one fact is so, the other is
abbrev pub Implies : Trace → Fact → Fact → Type 0
Implies t one (Before from to) = Shows one from to
Implies t one (Sees write read) = one ≡ Sees write read
Implies t one (SeesFirst read) = one ≡ SeesFirst read
Implies t one (Hidden write read) = one ≡ Hidden write read
Implies t one (Unseen write read) = IsRuledOut t one read write
Implies t one (UnseenFirst read) = IsRuledOutFirst t one read

-- the assumption is the contrary of the fact, or holds by a hint
abbrev pub IsMet : Trace → List Line → List ℕ → Fact → Fact → Type 0
IsMet t earlier hints fact assumed = Negates assumed fact ⊎ SomeHint earlier hints (λ one. Implies t one assumed)

-- the line is an assumption of this block
pub record Assumes (block : ℕ) (line : Line) : Type 0 where
  pub rule : IsAssumed line.rule
  pub inside : line.block ≡ Some block

-- the hints stand in the order of the assumptions, of which one has none: so that of number k is one of these two
abbrev pub hints_near : List ℕ → ℕ → List ℕ
hints_near hints k = slice_range hints (k - 1) (k + 1)

-- the lines of this block, from its first one on: it has one assumption more than there are hints, and each is met
pub record LeavesOne (t : Trace) (earlier : List Line) (hints : List ℕ) (fact : Fact) (block : ℕ) (lines : List Line) : Type 0 where
  pub each : (k : ℕ) → k < length hints + 1 → IsSomeAnd (slice_get lines k) (λ line. Assumes block line × IsMet t earlier (hints_near hints k) fact line.fact)
  pub all : IsSomeAnd (slice_get lines (length hints + 1)) (Assumes block) → ⊥

-- the line of this number ends a block, and its assumptions hold by the hints but one, of which the fact is the contrary
abbrev pub IsLemma : Trace → List Line → List ℕ → Fact → ℕ → Type 0
IsLemma t earlier hints fact end =
    IsSomeAnd (slice_get earlier end) (λ line. IsContradiction line.fact × IsSomeAnd line.block (λ block. LeavesOne t earlier hints fact block (drop block earlier)))

-- ==== what follows from a trace and from the facts of hints: a case for each rule.

-- ---- the rules

-- 'by' writes the cell that is read, and stands between the write and the read
pub record IsHidden (t : Trace) (earlier : List Line) (hints : List ℕ) (write read by : Place) : Type 0 where
  pub writes : WritesWhatIsRead t by read
  pub after : IsBefore earlier hints write by
  pub before : IsBefore earlier hints by read

-- 'write' is another operation, which writes the cell that is read, and what is left for the read to see comes before it
pub record IsBeforeAll (t : Trace) (earlier : List Line) (hints : List ℕ) (read write : Place) : Type 0 where
  pub other : read ≢ write
  pub writes : WritesWhatIsRead t write read
  pub left : Leaves t earlier hints read (Until write)

-- the write stands before the read, and writes its cell
pub record IsWriteBefore (t : Trace) (earlier : List Line) (hints : List ℕ) (write read : Place) : Type 0 where
  pub writes : WritesWhatIsRead t write read
  pub before : IsBefore earlier hints write read

-- the fact says that 'source' is what a read sees before which the write stands
abbrev pub HasReader : Trace → List Line → List ℕ → Place → Place → Fact → Type 0
HasReader t earlier hints write source (Before from to) = ⊥
HasReader t earlier hints write source (Sees seen read) = (seen ≡ source) × IsWriteBefore t earlier hints write read
HasReader t earlier hints write source (SeesFirst read) = ⊥
HasReader t earlier hints write source (Hidden hidden read) = ⊥
HasReader t earlier hints write source (Unseen unseen read) = ⊥
HasReader t earlier hints write source (UnseenFirst read) = ⊥

-- a hint says that 'source' is what a read sees, and 'write', another write of the cell, stands before that read
pub record IsAfterSource (t : Trace) (earlier : List Line) (hints : List ℕ) (write source : Place) : Type 0 where
  pub other : write ≢ source
  pub reader : SomeHint earlier hints (HasReader t earlier hints write source)

-- ---- which rule says what

abbrev pub IsOrdered : Trace → List Line → List ℕ → Place → Place → Rule → Type 0
IsOrdered t earlier hints from to Joined = IsJoined earlier hints from to
IsOrdered t earlier hints from to (HiddenBy by) = ⊥
IsOrdered t earlier hints from to Source = ⊥
IsOrdered t earlier hints from to AfterAll = Leaves t earlier hints to (After from)
IsOrdered t earlier hints from to BeforeAll = IsBeforeAll t earlier hints from to
IsOrdered t earlier hints from to AfterSource = IsAfterSource t earlier hints from to
IsOrdered t earlier hints from to Assumed = ⊥
IsOrdered t earlier hints from to (Lemma end) = ⊥

abbrev pub IsSource : Rule → Type 0
IsSource Source = ⊤
IsSource _ = ⊥

abbrev pub IsHiddenBy : Trace → List Line → List ℕ → Place → Place → Rule → Type 0
IsHiddenBy t earlier hints write read (HiddenBy by) = IsHidden t earlier hints write read by
IsHiddenBy t earlier hints write read Joined = ⊥
IsHiddenBy t earlier hints write read Source = ⊥
IsHiddenBy t earlier hints write read AfterAll = ⊥
IsHiddenBy t earlier hints write read BeforeAll = ⊥
IsHiddenBy t earlier hints write read AfterSource = ⊥
IsHiddenBy t earlier hints write read Assumed = ⊥
IsHiddenBy t earlier hints write read (Lemma end) = ⊥

-- the fact follows by a rule that draws it from the hints alone
abbrev pub IsDrawn : Trace → List Line → List ℕ → Fact → Rule → Type 0
IsDrawn t earlier hints (Before from to) rule = IsOrdered t earlier hints from to rule
IsDrawn t earlier hints (Sees write read) rule = IsSource rule × Leaves t earlier hints read (Write write)
IsDrawn t earlier hints (SeesFirst read) rule = IsSource rule × Leaves t earlier hints read First
IsDrawn t earlier hints (Hidden write read) rule = IsHiddenBy t earlier hints write read rule
IsDrawn t earlier hints (Unseen write read) rule = ⊥
IsDrawn t earlier hints (UnseenFirst read) rule = ⊥

-- any fact may be assumed
abbrev pub FollowsBy : Trace → List Line → List ℕ → Fact → Rule → Type 0
FollowsBy t earlier hints fact Assumed = ⊤
FollowsBy t earlier hints fact (Lemma end) = IsLemma t earlier hints fact end
FollowsBy t earlier hints fact rule = IsDrawn t earlier hints fact rule

-- ---- lines

-- a rule but 'joined' and 'lemma' allows this many hints at most
abbrev pub HasFewHints : Rule → ℕ → Type 0
HasFewHints Joined count = ⊤
HasFewHints (Lemma end) count = ⊤
HasFewHints _ count = count ≤ MOST_HINTS

pub record AreOperations (t : Trace) (a b : Place) : Type 0 where
  pub one : IsSome (operation_at t a)
  pub other : IsSome (operation_at t b)

-- the fact is one of operations of the trace
abbrev pub IsOf : Trace → Fact → Type 0
IsOf t (Before from to) = AreOperations t from to
IsOf t (Sees write read) = AreOperations t write read
IsOf t (SeesFirst read) = IsSome (operation_at t read)
IsOf t (Hidden write read) = AreOperations t write read
IsOf t (Unseen write read) = AreOperations t write read
IsOf t (UnseenFirst read) = IsSome (operation_at t read)

-- the hint is the number of a line that can be named in this block
abbrev pub CanBeNamed : List Line → Option ℕ → ℕ → Type 0
CanBeNamed earlier block hint = IsSomeAnd (slice_get earlier hint) (λ line. IsVisible line.block block)

-- the line follows from the trace and the earlier lines, with these hints
pub record Follows (t : Trace) (earlier : List Line) (hints : List ℕ) (line : Line) : Type 0 where
  pub placed : IsPlaced earlier line
  pub named : All (CanBeNamed earlier line.block) hints
  pub few : HasFewHints line.rule line.count
  pub operations : IsOf t line.fact
  pub rule : FollowsBy t earlier hints line.fact line.rule

-- ==== derivations that leave a trace no schedule.

-- the hints of a line, among those of all lines
abbrev pub hints_of : List ℕ → Line → List ℕ
hints_of hints line = slice_range hints line.first (line.first + line.count)

-- the hints of line k are there, and it follows from the trace and the lines before it
pub record LineFollows (t : Trace) (lines : List Line) (hints : List ℕ) (k : ℕ) (line : Line) : Type 0 where
  pub inside : line.first + line.count ≤ length hints
  pub follows : Follows t (take k lines) (hints_of hints line) line

-- so does each line
pub record AllFollow (t : Trace) (lines : List Line) (hints : List ℕ) : Type 0 where
  pub each : (k : ℕ) (line : Line) → slice_get lines k ≡ Some line → LineFollows t lines hints k line

-- the line is a contradiction outside of blocks
pub record IsEnd (line : Line) : Type 0 where
  pub outside : line.block ≡ None
  pub contradicts : IsContradiction line.fact

-- each line follows, and the last one is such
pub record OrdersRefute (t : Trace) (lines : List Line) (hints : List ℕ) : Type 0 where
  pub follow : AllFollow t lines hints
  pub ends : IsSomeAnd (slice_get lines (length lines - 1)) IsEnd
