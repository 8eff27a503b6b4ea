-- Which traces have something to hand out, and what is taken of their sets.
use Rattle.std.proofs.Common.{◌≡◌, true, ℕ, ◌<◌, ◌≤◌, List, Option, Some, None, Result, Ok, Err, IfSome, IsSomeAnd, IfOk, OnErr, MatchOption, MatchResult, ◌↔◌, false, is_some, length, slice_get, inr, refl, sym, ap, ◌∙◌, subst, arith}
use Rattle.std.proofs.lemmas.Map.Entries.{place_from_lookup}
use Rattle.std.proofs.lemmas.Option.{slice_get_within}
use Rattle.std.proofs.lemmas.Map.Steps.{set_value_same}
use Rattle.std.specs.Map.{lookup, set_value}
use Rattle.std.specs.Option.{option_map_or}
use Rattle.scm_cells.specs.laws.NameLaws.{name_eq-Decides}
use Rattle.scm_cells.specs.CellLists.{name_eq}
use Rattle.scm_expand.specs.declared.task.Task.{Task}
use Rattle.scm_reach.specs.inner.Handing.{Hands}
use Rattle.scm_reach.specs.Kept.{Kept}
use Rattle.scm_book.proofs.Entries.{trace_named-lookup, set_named-lookup}
use Rattle.scm_book.specs.Machine.{Machine, TraceState, trace_named}
use Rattle.scm_book.specs.inner.Sets.{KeptTrace, InKept, machine_in, sets_in, set_named}
use Rattle.scm_book.specs.inner.Workers.{HoldsOfNone, ComesFirst, TakesTasks}

-- ---- the search for a trace

-- it holds of none of the first n traces
abbrev pub HoldsOfNoneBelow : (TraceState → Kept → Type 0) → List (List ℕ × KeptTrace) → ℕ → Type 0
HoldsOfNoneBelow Holds traces n =
    (i : ℕ) (e : List ℕ × KeptTrace) → i < n → slice_get traces i ≡ Some e → IfSome (lookup (name_eq e.0) traces) (λ k. Holds k.state k.set → ⊥)

-- a name that is found stands at some place, so that where it holds at no place, it holds of no name
pub holds_of_none : (Holds : TraceState → Kept → Type 0) (traces : List (List ℕ × KeptTrace)) (n : ℕ) → length traces ≤ n → HoldsOfNoneBelow Holds traces n → HoldsOfNone Holds (machine_in traces) (sets_in traces)
holds_of_none Holds traces n all none name state set there found holds = by (lookup (name_eq name) traces) refl where
  by : (o : Option KeptTrace) → o ≡ lookup (name_eq name) traces → ⊥
  by None is = let no : Some state ≡ None = sym there ∙ trace_named-lookup traces traces refl name None is in cc
  by (Some k) is =
      let at = place_from_lookup (name_eq name) traces k (sym is) in
      let same_name : name ≡ at.1 = (name_eq-Decides name at.1).0 at.3 in
      let within : at.0 < length traces = slice_get_within traces at.0 (at.1, k) at.2 in
      let refuses : Holds k.state k.set → ⊥ =
      subst (λ o. IfSome o (λ (x : KeptTrace). Holds x.state x.set → ⊥)) (ap (λ m. lookup (name_eq m) traces) (sym same_name) ∙ sym is) (none at.0 (at.1, k) (omega (arith, within, all)) at.2) in
      let same_state : Some state ≡ Some k.state = sym there ∙ trace_named-lookup traces traces refl name (Some k) is in
      let same_set : Some set ≡ Some k.set = sym found ∙ set_named-lookup traces traces refl name (Some k) is in
      refuses (subst (λ s. Holds s k.set) (ap (λ o. option_map_or (λ s. s) o state) same_state) (subst (λ s. Holds state s) (ap (λ o. option_map_or (λ s. s) o set) same_set) holds))

-- where it holds of the trace of a name, it doesn't hold of none
pub holds_of_some : (Holds : TraceState → Kept → Type 0) (traces : List (List ℕ × KeptTrace)) (name : List ℕ) → InKept traces name Holds → HoldsOfNone Holds (machine_in traces) (sets_in traces) → ⊥
holds_of_some Holds traces name holds none = by (lookup (name_eq name) traces) refl holds where
  by : (o : Option KeptTrace) → o ≡ lookup (name_eq name) traces → IsSomeAnd o (λ k. Holds k.state k.set) → ⊥
  by None is nothing = absurd nothing
  by (Some k) is it = none name k.state k.set (trace_named-lookup traces traces refl name (Some k) is) (set_named-lookup traces traces refl name (Some k) is) it

-- a search for a trace of which it holds finds none exactly where it holds of none
pub finds_none : (Holds : TraceState → Kept → Type 0) (traces : List (List ℕ × KeptTrace)) (found : Option (List ℕ))
    → MatchOption found (HoldsOfNone Holds (machine_in traces) (sets_in traces)) (λ name. InKept traces name Holds)
    → (is_some found ≡ false) ↔ HoldsOfNone Holds (machine_in traces) (sets_in traces)
finds_none Holds traces None says = ((λ no. says), (λ none. refl))
finds_none Holds traces (Some name) says = ((λ no. let absurd : true ≡ false = no in cc), (λ none. absurd (holds_of_some Holds traces name says none)))

-- what holds of the trace that a look-up finds, said of the trace
pub holds_of_found : (Holds : TraceState → Kept → Type 0) (inside traces : List (List ℕ × KeptTrace)) (name : List ℕ) (k : KeptTrace) → inside ≡ traces → Some k ≡ lookup (name_eq name) inside
    → IsSomeAnd (lookup (name_eq name) traces) (λ x. Holds x.state x.set) → Holds k.state k.set
holds_of_found Holds inside traces name k is looked holds = subst (λ o. IsSomeAnd o (λ (x : KeptTrace). Holds x.state x.set)) (ap (lookup (name_eq name)) (sym is) ∙ sym looked) holds

-- ---- taking

-- tasks were handed out of the set of one trace, or memory was refused and the set is the same
pub takes_of : {T E : Type 0} (items : T → List Task) (r : Result T E) (machine : Machine) (sets new : List (List ℕ × Kept)) (n : ℕ) (name : List ℕ) (state : TraceState) (old kept : Kept) → trace_named machine name ≡ Some state
    → set_named sets name ≡ Some old → ComesFirst machine sets state old → kept.initials ≡ old.initials → new ≡ set_value (name_eq name) sets kept → IfOk r (λ given. Hands name state.sequences n old.members (items given) kept.members) → OnErr r (kept ≡ old)
    → MatchResult r (λ given. TakesTasks machine sets n (items given) new) (λ _. new ≡ sets)
takes_of items (Ok given) machine sets new n name state old kept there found first initials written hands same =
    inr (record { name = name; state = state; there = there; taken = record { before = old; after = kept; found = found; leads = (first, initials, hands); written = written } })
takes_of items (Err e) machine sets new n name state old kept there found first initials written hands same = written ∙ ap (set_value (name_eq name) sets) same ∙ set_value_same (name_eq name) sets old found
