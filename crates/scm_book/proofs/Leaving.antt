-- What each way out of a call leaves of the sets.
use Rattle.std.proofs.lemmas.Bool.{leb-true, le-leb}
use Rattle.std.proofs.Common.{inl, inr, ◌≡◌, ◌+◌, ◌-◌, ◌<◌, ◌≤◌, ◌^◌, nat_le, arith, IfSome, IsTrue, ℕ, true, false, List, length, Option, None, Some, Result, Ok, Err, IsOkAnd, IsSomeAnd, MatchOption, MatchResult, refl, sym, ap, ◌∙◌, subst}
use Rattle.std.specs.Map.{lookup, set_value}
use Rattle.std.proofs.lemmas.Map.Steps.{set_value_same}
use Rattle.scm_sequences.specs.declared.refusal.Refusal.{Refusal}
use Rattle.scm_sequences.specs.declared.refusal.Refusal.TheVariants.{NoMemory}
use Rattle.scm_cells.specs.CellLists.{name_eq}
use Rattle.scm_marks.specs.MarkLists.{mark_at}
use Rattle.scm_reach.specs.Kept.{Kept, Member}
use Rattle.scm_sequences.specs.declared.op.Op.{Op}
use Rattle.scm_reach.specs.inner.Cutting.{cut_members}
use Rattle.scm_reach.specs.laws.WorkLaws.{KeepsWork-idle, KeepsWork-counted}
use Rattle.scm_book.specs.Machine.{CallData, opens, claims, releases, reports, sets_mark, goes_back, raises, asks, asks_why, asks_cycle, shows, lists, closes, ReplyData, done, marked, consistent, inconsistent, undecided, because, cycle, unknown, ops, listed, refused, Machine, TraceState, trace_named}
use Rattle.scm_book.specs.inner.Changes.{tells_of_change}
use Rattle.scm_book.specs.inner.Sound.{IsKeptFor}
use Rattle.scm_book.specs.inner.Sets.{most_steps, HasRoomFor, HoldsFor, KeptTrace, machine_in, sets_in, set_named, IsKnownBy, Becomes, CutsSet, asked_lengths, Searches, IsIdle, SearchesSet, IfDone, LeavesSets}
use Rattle.scm_book.proofs.Entries.{trace_named-lookup, set_named-lookup}

module _ (machine : Machine) (sets new : List (List ℕ × Kept)) (name : List ℕ) where
  -- a return cut the set of the trace
  pub cuts_set : (m : ℕ) (state : TraceState) (old cut : Kept) → trace_named machine name ≡ Some state → set_named sets name ≡ Some old
      → IsOkAnd (mark_at state.marks m) (λ lengths. cut ≡ record old { members = cut_members lengths old.members }) → new ≡ set_value (name_eq name) sets cut → CutsSet machine sets name m new
  cuts_set m state old cut there found is written = subst (λ o. IsSomeAnd o (λ s. IsOkAnd (mark_at s.marks m) (λ lengths. Becomes sets name (λ a b. b ≡ record a { members = cut_members lengths a.members }) new))) (sym there) (by (mark_at state.marks m) is) where
    by : (r : Result (List ℕ) Refusal) → IsOkAnd r (λ lengths. cut ≡ record old { members = cut_members lengths old.members }) → IsOkAnd r (λ lengths. Becomes sets name (λ a b. b ≡ record a { members = cut_members lengths a.members }) new)
    by (Ok lengths) is = record { before = old; after = cut; found = found; leads = is; written = written }
    by (Err refusal) is = is

  module _ (mark : Option ℕ) (reply : ReplyData) (before after : ℕ) where
    -- a question about a trace that isn't there
    pub searches_none : trace_named machine name ≡ None → new ≡ sets → after ≡ before → SearchesSet machine sets name mark reply before after new
    searches_none none same still = subst (λ o. MatchOption o (IsIdle sets before after new) (λ state. MatchResult (asked_lengths state mark) (λ lengths. Becomes sets name (Searches state reply before after lengths) new) (λ refusal. IsIdle sets before after new))) (sym none) (same, still)

    -- a question searched in the set of the trace, unless its mark isn't there
    pub searches_set : (state : TraceState) (old kept : Kept) → trace_named machine name ≡ Some state → set_named sets name ≡ Some old
        → MatchResult (asked_lengths state mark) (λ lengths. Searches state reply before after lengths old kept) (λ refusal. (kept ≡ old) × (after ≡ before)) → new ≡ set_value (name_eq name) sets kept
        → SearchesSet machine sets name mark reply before after new
    searches_set state old kept there found searched written =
        subst (λ o. MatchOption o (IsIdle sets before after new) (λ s. MatchResult (asked_lengths s mark) (λ lengths. Becomes sets name (Searches s reply before after lengths) new) (λ refusal. IsIdle sets before after new))) (sym there)
        (by (asked_lengths state mark) searched)
      where
        by : (r : Result (List ℕ) Refusal) → MatchResult r (λ lengths. Searches state reply before after lengths old kept) (λ refusal. (kept ≡ old) × (after ≡ before))
            → MatchResult r (λ lengths. Becomes sets name (Searches state reply before after lengths) new) (λ refusal. IsIdle sets before after new)
        by (Ok lengths) searched = record { before = old; after = kept; found = found; leads = searched; written = written }
        by (Err refusal) searched = (written ∙ ap (set_value (name_eq name) sets) searched.0 ∙ set_value_same (name_eq name) sets old found, searched.1)

    -- the same, where what was answered is named otherwise
    pub searches_answered : (answer : ReplyData) → answer ≡ reply → (state : TraceState) (old kept : Kept) → trace_named machine name ≡ Some state → set_named sets name ≡ Some old
        → MatchResult (asked_lengths state mark) (λ lengths. Searches state answer before after lengths old kept) (λ refusal. (kept ≡ old) × (after ≡ before)) → new ≡ set_value (name_eq name) sets kept
        → SearchesSet machine sets name mark reply before after new
    searches_answered answer is state old kept there found searched written =
        searches_set state old kept there found (subst (λ r. MatchResult (asked_lengths state mark) (λ lengths. Searches state r before after lengths old kept) (λ refusal. (kept ≡ old) × (after ≡ before))) is searched) written

-- a question that was refused before it was reached
pub searches_idle : (traces : List (List ℕ × KeptTrace)) (name : List ℕ) (mark : Option ℕ) (cause : Refusal) (made : ℕ) → SearchesSet (machine_in traces) (sets_in traces) name mark (refused cause) made made (sets_in traces)
searches_idle traces name mark cause made = by (lookup (name_eq name) traces) refl where
  by : (o : Option KeptTrace) → o ≡ lookup (name_eq name) traces → SearchesSet (machine_in traces) (sets_in traces) name mark (refused cause) made made (sets_in traces)
  by None is = searches_none (machine_in traces) (sets_in traces) (sets_in traces) name mark (refused cause) made made (trace_named-lookup traces traces refl name None is) refl refl
  by (Some k) is =
      let found : set_named (sets_in traces) name ≡ Some k.set = set_named-lookup traces traces refl name (Some k) is in
      searches_set (machine_in traces) (sets_in traces) (sets_in traces) name mark (refused cause) made made k.state k.set k.set (trace_named-lookup traces traces refl name (Some k) is) found (at (asked_lengths k.state mark))
      (sym (set_value_same (name_eq name) (sets_in traces) k.set found))
    where
      at : (r : Result (List ℕ) Refusal) → MatchResult r (λ lengths. Searches k.state (refused cause) made made lengths k.set k.set) (λ refusal. (k.set ≡ k.set) × (made ≡ made))
      at (Ok lengths) = record { initials = refl; work = KeepsWork-idle _ k.state.budget k.set.members made; known = tt }
      at (Err refusal) = (refl, refl)

-- a call that was refused before it was reached
pub leaves_idle : (traces : List (List ℕ × KeptTrace)) (call : CallData) (refusal : Refusal) (made : ℕ) → LeavesSets (machine_in traces) (sets_in traces) call (refused refusal) made made (sets_in traces)
leaves_idle traces (opens name procs budget decls) refusal made = (refl, refl)
leaves_idle traces (claims name p) refusal made = (refl, refl)
leaves_idle traces (releases name p) refusal made = (refl, refl)
leaves_idle traces (reports name p access) refusal made = (refl, refl)
leaves_idle traces (sets_mark name) refusal made = (refl, refl)
leaves_idle traces (goes_back name m) refusal made = (refl, refl)
leaves_idle traces (raises name n) refusal made = (refl, refl)
leaves_idle traces (asks name mark) refusal made = searches_idle traces name mark refusal made
leaves_idle traces (asks_why name mark) refusal made = searches_idle traces name mark refusal made
leaves_idle traces (asks_cycle name mark) refusal made = (refl, refl)
leaves_idle traces (shows name p) refusal made = (refl, refl)
leaves_idle traces lists refusal made = (refl, refl)
leaves_idle traces (closes name) refusal made = (refl, refl)

-- ---- a reply that couldn't be copied

still_other : (reply : ReplyData) (effect other : Type 0) → tells_of_change reply ≡ false → IfDone reply effect other → other
still_other done effect other still h = let no : true ≡ false = still in cc
still_other (marked mark) effect other still h = h
still_other (consistent schedule fixed) effect other still h = h
still_other inconsistent effect other still h = h
still_other undecided effect other still h = h
still_other (because situations) effect other still h = h
still_other (cycle lines hints) effect other still h = h
still_other unknown effect other still h = h
still_other (ops operations) effect other still h = h
still_other (listed names) effect other still h = h
still_other (refused refusal) effect other still h = h

-- what a question found out stays, though nobody is told
searches_uncopied : (machine : Machine) (old new : List (List ℕ × Kept)) (name : List ℕ) (mark : Option ℕ) (reply : ReplyData) (before after : ℕ) → SearchesSet machine old name mark reply before after new
    → SearchesSet machine old name mark (refused NoMemory) before after new
searches_uncopied machine old new name mark reply before after = by (trace_named machine name) where
  untold_of : (state : TraceState) (lengths : List ℕ) → Becomes old name (Searches state reply before after lengths) new → Becomes old name (Searches state (refused NoMemory) before after lengths) new
  untold_of state lengths b = record { before = b.before; after = b.after; found = b.found; leads = record { initials = b.leads.initials; work = b.leads.work; known = tt }; written = b.written }

  at : (state : TraceState) (r : Result (List ℕ) Refusal) → MatchResult r (λ lengths. Becomes old name (Searches state reply before after lengths) new) (λ refusal. IsIdle old before after new)
      → MatchResult r (λ lengths. Becomes old name (Searches state (refused NoMemory) before after lengths) new) (λ refusal. IsIdle old before after new)
  at state (Ok lengths) b = untold_of state lengths b
  at state (Err refusal) same = same

  by : (o : Option TraceState) → MatchOption o (IsIdle old before after new) (λ state. MatchResult (asked_lengths state mark) (λ lengths. Becomes old name (Searches state reply before after lengths) new) (λ refusal. IsIdle old before after new))
      → MatchOption o (IsIdle old before after new) (λ state. MatchResult (asked_lengths state mark) (λ lengths. Becomes old name (Searches state (refused NoMemory) before after lengths) new) (λ refusal. IsIdle old before after new))
  by None same = same
  by (Some state) b = at state (asked_lengths state mark) b

pub leaves_uncopied : (machine : Machine) (old new : List (List ℕ × Kept)) (call : CallData) (reply : ReplyData) (before after : ℕ) → tells_of_change reply ≡ false → LeavesSets machine old call reply before after new
    → LeavesSets machine old call (refused NoMemory) before after new
leaves_uncopied machine old new (opens name procs budget decls) reply before after still left = (still_other reply _ _ still left.0, left.1)
leaves_uncopied machine old new (claims name p) reply before after still left = left
leaves_uncopied machine old new (releases name p) reply before after still left = left
leaves_uncopied machine old new (reports name p access) reply before after still left = left
leaves_uncopied machine old new (sets_mark name) reply before after still left = left
leaves_uncopied machine old new (goes_back name m) reply before after still left = (still_other reply _ _ still left.0, left.1)
leaves_uncopied machine old new (raises name n) reply before after still left = left
leaves_uncopied machine old new (asks name mark) reply before after still left = searches_uncopied machine old new name mark reply before after left
leaves_uncopied machine old new (asks_why name mark) reply before after still left = searches_uncopied machine old new name mark reply before after left
leaves_uncopied machine old new (asks_cycle name mark) reply before after still left = left
leaves_uncopied machine old new (shows name p) reply before after still left = left
leaves_uncopied machine old new lists reply before after still left = left
leaves_uncopied machine old new (closes name) reply before after still left = (still_other reply _ _ still left.0, left.1)

-- ---- steps from 0 on

counted_idle : (old new : List (List ℕ × Kept)) (before after : ℕ) → IsIdle old before after new → (before ≤ after) × IsIdle old 0 (after - before) new
counted_idle old new before after idle = (omega (arith, idle.1), (idle.0, omega (arith, idle.1)))

known_counted : (reply : ReplyData) (sequences : List (List Op)) (lengths : List ℕ) (old new : List Member) (before after : ℕ) → IsKnownBy reply sequences lengths old before new after
    → IsKnownBy reply sequences lengths old 0 new (after - before)
known_counted (consistent schedule fixed) sequences lengths old new before after (inl whole) = inl whole
known_counted (consistent schedule fixed) sequences lengths old new before after (inr idle) = inr (idle.0, omega (arith, idle.1))
known_counted inconsistent sequences lengths old new before after known = known
known_counted (because situations) sequences lengths old new before after known = known
known_counted (cycle lines hints) sequences lengths old new before after known = known
known_counted unknown sequences lengths old new before after known = known
known_counted done sequences lengths old new before after known = known
known_counted (marked mark) sequences lengths old new before after known = known
known_counted undecided sequences lengths old new before after known = known
known_counted (ops shown) sequences lengths old new before after known = known
known_counted (listed names) sequences lengths old new before after known = known
known_counted (refused refusal) sequences lengths old new before after known = known

searches_counted : (machine : Machine) (old new : List (List ℕ × Kept)) (name : List ℕ) (mark : Option ℕ) (reply : ReplyData) (before after : ℕ) → SearchesSet machine old name mark reply before after new
    → (before ≤ after) × SearchesSet machine old name mark reply 0 (after - before) new
searches_counted machine old new name mark reply before after = by (trace_named machine name) where
  counted_of : (state : TraceState) (lengths : List ℕ) → Becomes old name (Searches state reply before after lengths) new → (before ≤ after) × Becomes old name (Searches state reply 0 (after - before) lengths) new
  counted_of state lengths b = (b.leads.work.rises, record { before = b.before; after = b.after; found = b.found; leads = record { initials = b.leads.initials; work = KeepsWork-counted _ _ _ before _ after b.leads.work; known = known_counted reply state.sequences lengths _ _ before after b.leads.known }; written = b.written })

  at : (state : TraceState) (r : Result (List ℕ) Refusal) → MatchResult r (λ lengths. Becomes old name (Searches state reply before after lengths) new) (λ refusal. IsIdle old before after new)
      → (before ≤ after) × MatchResult r (λ lengths. Becomes old name (Searches state reply 0 (after - before) lengths) new) (λ refusal. IsIdle old 0 (after - before) new)
  at state (Ok lengths) b = counted_of state lengths b
  at state (Err refusal) same = counted_idle old new before after same

  by : (o : Option TraceState) → MatchOption o (IsIdle old before after new) (λ state. MatchResult (asked_lengths state mark) (λ lengths. Becomes old name (Searches state reply before after lengths) new) (λ refusal. IsIdle old before after new))
      → (before ≤ after) × MatchOption o (IsIdle old 0 (after - before) new) (λ state. MatchResult (asked_lengths state mark) (λ lengths. Becomes old name (Searches state reply 0 (after - before) lengths) new) (λ refusal. IsIdle old 0 (after - before) new))
  by None same = counted_idle old new before after same
  by (Some state) b = at state (asked_lengths state mark) b

-- the counter doesn't fall, and what it rose by is what the call made
pub leaves_counted : (machine : Machine) (old new : List (List ℕ × Kept)) (call : CallData) (reply : ReplyData) (before after : ℕ) → LeavesSets machine old call reply before after new
    → (before ≤ after) × LeavesSets machine old call reply 0 (after - before) new
leaves_counted machine old new (opens name procs budget decls) reply before after left = (omega (arith, left.1), (left.0, omega (arith, left.1)))
leaves_counted machine old new (claims name p) reply before after left = (omega (arith, left.1), (left.0, omega (arith, left.1)))
leaves_counted machine old new (releases name p) reply before after left = (omega (arith, left.1), (left.0, omega (arith, left.1)))
leaves_counted machine old new (reports name p access) reply before after left = (omega (arith, left.1), (left.0, omega (arith, left.1)))
leaves_counted machine old new (sets_mark name) reply before after left = (omega (arith, left.1), (left.0, omega (arith, left.1)))
leaves_counted machine old new (goes_back name m) reply before after left = (omega (arith, left.1), (left.0, omega (arith, left.1)))
leaves_counted machine old new (raises name n) reply before after left = (omega (arith, left.1), (left.0, omega (arith, left.1)))
leaves_counted machine old new (asks name mark) reply before after left = searches_counted machine old new name mark reply before after left
leaves_counted machine old new (asks_why name mark) reply before after left = searches_counted machine old new name mark reply before after left
leaves_counted machine old new (asks_cycle name mark) reply before after left = (omega (arith, left.1), (left.0, omega (arith, left.1)))
leaves_counted machine old new (shows name p) reply before after left = (omega (arith, left.1), (left.0, omega (arith, left.1)))
leaves_counted machine old new lists reply before after left = (omega (arith, left.1), (left.0, omega (arith, left.1)))
leaves_counted machine old new (closes name) reply before after left = (omega (arith, left.1), (left.0, omega (arith, left.1)))

-- ---- looking a trace up

-- a counter has room for a question about a trace that isn't there
pub room_none : (machine : Machine) (name : List ℕ) (made : ℕ) → trace_named machine name ≡ None → (IsTrue true → HasRoomFor machine name made) × (HasRoomFor machine name made → IsTrue true)
room_none machine name made none = ((λ _. subst (λ o. IfSome o (λ state. made + most_steps state < 2 ^ 64)) (sym none) tt), (λ _. refl))

module _ (machine : Machine) (name : List ℕ) (state : TraceState) (there : trace_named machine name ≡ Some state) where
  pub room_there : (made : ℕ) → HasRoomFor machine name made → made + most_steps state < 2 ^ 64
  room_there made room = subst (λ o. IfSome o (λ s. made + most_steps s < 2 ^ 64)) there room

  -- it has room exactly where what is left of the counter is as much as the most steps
  pub room_some : (made counted most : ℕ) → counted ≡ made → most ≡ most_steps state → most < 2 ^ 64 → (IsTrue (nat_le counted (2 ^ 64 - 1 - most)) → HasRoomFor machine name made) × (HasRoomFor machine name made → IsTrue (nat_le counted (2 ^ 64 - 1 - most)))
  room_some made counted most is_made is_most fits = (
    (λ fewer. subst (λ o. IfSome o (λ s. made + most_steps s < 2 ^ 64)) (sym there) (omega (arith, leb-true counted (2 ^ 64 - 1 - most) fewer, is_made, is_most, fits))),
    (λ room. le-leb counted (2 ^ 64 - 1 - most) (omega (arith, room_there made room, is_made, is_most, fits))),
  )

-- what is kept for a trace
module _ (machine : Machine) (sets : List (List ℕ × Kept)) (name : List ℕ) where
  pub holds_none : (held : Option ℕ) → trace_named machine name ≡ None → held ≡ None → HoldsFor machine sets name held
  holds_none held none is =
      subst (λ o. MatchOption o (held ≡ None) (λ state. IsSomeAnd (set_named sets name) (λ set. IsKeptFor state set × (held ≡ Some (length set.members))))) (sym none) is

  pub holds_some : (state : TraceState) (set : Kept) (held : Option ℕ) → trace_named machine name ≡ Some state → set_named sets name ≡ Some set → IsKeptFor state set → held ≡ Some (length set.members) → HoldsFor machine sets name held
  holds_some state set held there found for is =
      subst (λ o. MatchOption o (held ≡ None) (λ s. IsSomeAnd (set_named sets name) (λ k. IsKeptFor s k × (held ≡ Some (length k.members))))) (sym there)
      (subst (λ o. IsSomeAnd o (λ k. IsKeptFor state k × (held ≡ Some (length k.members)))) (sym found) (for, is))
