-- The sets of situations that are kept beside the open traces, and what a call leaves of them. They are no part of the
-- machine: they spare work, and what a reply may be doesn't depend on them.
use Rattle.std.specs.Prelude.{ℕ, ◌≡◌, ◌+◌, ◌*◌, ◌<◌, ◌^◌, ◌⊎◌, ⊤, List, [], ◌∷◌, ◌++◌, length, map, Option, None, Some, Result, Ok, IsSomeAnd, IsOkAnd, IfSome, MatchOption, MatchResult}
use Rattle.std.specs.Map.{lookup, set_value, remove_entry}
use Rattle.scm_sequences.specs.declared.refusal.Refusal.{Refusal}
use Rattle.scm_sequences.specs.declared.op.Op.{Op}
use Rattle.scm_sequences.specs.Sequences.{lengths_of}
use Rattle.scm_cells.specs.CellLists.{name_eq}
use Rattle.scm_marks.specs.MarkLists.{mark_at}
use Rattle.scm_reach.specs.Kept.{Kept, Member}
use Rattle.scm_reach.specs.inner.Cutting.{cut_members}
use Rattle.scm_reach.specs.inner.Growth.{IsAllDone}
use Rattle.scm_reach.specs.Work.{HasWhole, KeepsWork}
use Rattle.scm_book.specs.Machine.{CallData, opens, goes_back, asks, asks_why, closes, ReplyData, done, consistent, inconsistent, because, Machine, TraceState, trace_named}
use Rattle.scm_book.specs.inner.Sound.{IsKeptFor}

-- an open trace, with the set that is kept for it
pub record KeptTrace : Type 0 where
  pub state : TraceState
  pub set : Kept

-- the machine that open traces are, each under its name
abbrev pub machine_in : List (List ℕ × KeptTrace) → Machine
machine_in traces = record { traces = map (λ t. (t.0, t.1.state)) traces }

-- the sets that are kept for them, each under the name of its trace
abbrev pub sets_in : List (List ℕ × KeptTrace) → List (List ℕ × Kept)
sets_in traces = map (λ t. (t.0, t.1.set)) traces

-- the set that is kept for the trace of this name
abbrev pub set_named : List (List ℕ × Kept) → List ℕ → Option Kept
set_named sets name = lookup (name_eq name) sets

-- the trace of this name is there, and this holds of it and its set
abbrev pub InKept : List (List ℕ × KeptTrace) → List ℕ → (TraceState → Kept → Type 0) → Type 0
InKept traces name P = IsSomeAnd (lookup (name_eq name) traces) (λ k. P k.state k.set)

-- where the trace of this name is there, its set is kept for it and has so many members
abbrev pub HoldsFor : Machine → List (List ℕ × Kept) → List ℕ → Option ℕ → Type 0
HoldsFor machine sets name held =
    MatchOption (trace_named machine name) (held ≡ None) (λ state.
    IsSomeAnd (set_named sets name) (λ set. IsKeptFor state set × (held ≡ Some (length set.members))))

-- the set of this name led to another, which stands in its place; the others are as they were
pub record Becomes (old : List (List ℕ × Kept)) (name : List ℕ) (Leads : Kept → Kept → Type 0) (new : List (List ℕ × Kept)) : Type 0 where
  pub before : Kept
  pub after : Kept
  pub found : set_named old name ≡ Some before
  pub leads : Leads before after
  pub written : new ≡ set_value (name_eq name) old after

-- a new set stands last, with one situation
pub record HasNewSet (old : List (List ℕ × Kept)) (name : List ℕ) (new : List (List ℕ × Kept)) : Type 0 where
  pub set : Kept
  pub one : length set.members ≡ 1
  pub last : new ≡ old ++ (name, set) ∷ []

-- the set is cut to the mark, as the sequences are
abbrev pub CutsSet : Machine → List (List ℕ × Kept) → List ℕ → ℕ → List (List ℕ × Kept) → Type 0
CutsSet machine old name m new =
    IsSomeAnd (trace_named machine name) (λ state. IsOkAnd (mark_at state.marks m) (λ lengths.
    Becomes old name (λ a b. b ≡ record a { members = cut_members lengths a.members }) new))

-- the lengths at the mark, or with no mark the present ones
abbrev pub lengths_at_mark : List (List ℕ) → List ℕ → Option ℕ → Result (List ℕ) Refusal
lengths_at_mark marks present None = Ok present
lengths_at_mark marks present (Some m) = mark_at marks m

-- the lengths that a question is about
abbrev pub asked_lengths : TraceState → Option ℕ → Result (List ℕ) Refusal
asked_lengths state mark = lengths_at_mark state.marks (lengths_of state.sequences) mark

-- a question with this reply led from the old members to the new, while a counter of steps went from before to after: where
-- the reply says that there is a schedule, a situation with every operation is held, or nothing was done, since the schedule
-- was a proposal; where it says that there is none, all next operations were looked at
abbrev pub IsKnownBy : ReplyData → List (List Op) → List ℕ → List Member → ℕ → List Member → ℕ → Type 0
IsKnownBy (consistent schedule fixed) sequences lengths old before new after = HasWhole lengths new ⊎ ((new ≡ old) × (after ≡ before))
IsKnownBy inconsistent sequences lengths old before new after = IsAllDone sequences lengths new
IsKnownBy (because situations) sequences lengths old before new after = IsAllDone sequences lengths new
IsKnownBy reply sequences lengths old before new after = ⊤

-- a question about the trace cut to these lengths that is answered so leads from one set to another, while a counter of
-- steps goes from before to after
pub record Searches (state : TraceState) (reply : ReplyData) (before after : ℕ) (lengths : List ℕ) (old new : Kept) : Type 0 where
  pub initials : new.initials ≡ old.initials
  pub work : KeepsWork (record { sequences = state.sequences; lengths = lengths }) state.budget old.members before new.members after
  -- so what was found out is found again with no step
  pub known : IsKnownBy reply state.sequences lengths old.members before new.members after

-- the same of a question with this mark, if it has one; where the mark isn't there nothing happens
abbrev pub SearchesAt : TraceState → Option ℕ → ReplyData → ℕ → ℕ → Kept → Kept → Type 0
SearchesAt state mark reply before after old new =
    MatchResult (asked_lengths state mark) (λ lengths. Searches state reply before after lengths old new)
    (λ refusal. (new ≡ old) × (after ≡ before))

-- no set changed, and no step was made
abbrev pub IsIdle : List (List ℕ × Kept) → ℕ → ℕ → List (List ℕ × Kept) → Type 0
IsIdle old before after new = (new ≡ old) × (after ≡ before)

-- a question of this name and mark searches in the set of its trace, where both are there
abbrev pub SearchesSet : Machine → List (List ℕ × Kept) → List ℕ → Option ℕ → ReplyData → ℕ → ℕ → List (List ℕ × Kept) → Type 0
SearchesSet machine old name mark reply before after new =
    MatchOption (trace_named machine name) (IsIdle old before after new) (λ state.
    MatchResult (asked_lengths state mark) (λ lengths. Becomes old name (Searches state reply before after lengths) new)
    (λ refusal. IsIdle old before after new))

-- the one where the reply is that it is done, else the other
abbrev pub IfDone : ReplyData → Type 0 → Type 0 → Type 0
IfDone done effect other = effect
IfDone reply effect other = other

-- what a call with this reply makes of the sets where it is no question: a set is made with its trace, cut by a return, goes
-- with its trace, and is left alone by all else
abbrev pub ChangesSets : Machine → List (List ℕ × Kept) → CallData → ReplyData → List (List ℕ × Kept) → Type 0
ChangesSets machine old (opens name procs budget decls) reply new = IfDone reply (HasNewSet old name new) (new ≡ old)
ChangesSets machine old (goes_back name m) reply new = IfDone reply (CutsSet machine old name m new) (new ≡ old)
ChangesSets machine old (closes name) reply new = IfDone reply (new ≡ remove_entry (name_eq name) old) (new ≡ old)
ChangesSets machine old call reply new = new ≡ old

-- what a call with this reply leaves of the sets, while a counter of steps goes from before to after: a question searches
-- in a set, and no other call makes a step
abbrev pub LeavesSets : Machine → List (List ℕ × Kept) → CallData → ReplyData → ℕ → ℕ → List (List ℕ × Kept) → Type 0
LeavesSets machine old (asks name mark) reply before after new = SearchesSet machine old name mark reply before after new
LeavesSets machine old (asks_why name mark) reply before after new = SearchesSet machine old name mark reply before after new
LeavesSets machine old call reply before after new = ChangesSets machine old call reply new × (after ≡ before)

-- the most steps that a question about the trace makes
abbrev pub most_steps : TraceState → ℕ
most_steps state = state.budget * length state.sequences + 2

-- a counter that stands here has room for the steps of a question about the trace of this name
abbrev pub HasRoomFor : Machine → List ℕ → ℕ → Type 0
HasRoomFor machine name made = IfSome (trace_named machine name) (λ state. made + most_steps state < 2 ^ 64)

-- and for the steps of a call
abbrev pub HasRoom : Machine → CallData → ℕ → Type 0
HasRoom machine (asks name mark) made = HasRoomFor machine name made
HasRoom machine (asks_why name mark) made = HasRoomFor machine name made
HasRoom machine call made = ⊤
