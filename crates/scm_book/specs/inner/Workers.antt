-- What workers take and deliver. Neither is a step of the machine.
use Rattle.std.specs.Prelude.{ℕ, ◌≡◌, ◌≢◌, ◌<◌, ◌⊎◌, List, [], ◌∷◌, length, Option, Some, MatchOption}
use Rattle.scm_results.specs.declared.fate.Fate.{Fate}
use Rattle.scm_results.specs.declared.fate.Fate.TheVariants.{Stale}
use Rattle.scm_results.specs.declared.results.Results.{Results}
use Rattle.scm_results.specs.Totals.{none_counted, with_taken, with_fate, sum_of}
use Rattle.scm_expand.specs.declared.task.Task.{Task}
use Rattle.scm_expand.specs.Outcomes.{Expanded}
use Rattle.scm_reach.specs.Kept.{Kept}
use Rattle.scm_reach.specs.inner.Handing.{HasOpen, HasWaiting, Hands}
use Rattle.scm_reach.specs.inner.Accepting.{Accepts}
use Rattle.scm_book.specs.Machine.{Machine, TraceState, trace_named}
use Rattle.scm_book.specs.inner.Sets.{set_named, Becomes}
use Rattle.scm_book.specs.Journal.{BookState, IsUnchanged}

-- ---- taking

-- a next operation of the trace is still to be looked at, and its budget has room for what comes of it
pub record Offers (state : TraceState) (set : Kept) : Type 0 where
  pub room : length set.members < state.budget
  pub is_open : HasOpen state.sequences set.members

-- and such an operation wasn't handed out
pub record OffersNew (state : TraceState) (set : Kept) : Type 0 where
  pub room : length set.members < state.budget
  pub is_waiting : HasWaiting state.sequences set.members

-- it holds of no trace with its set
abbrev pub HoldsOfNone : (TraceState → Kept → Type 0) → Machine → List (List ℕ × Kept) → Type 0
HoldsOfNone Holds machine sets =
    (name : List ℕ) (state : TraceState) (set : Kept) → trace_named machine name ≡ Some state → set_named sets name ≡ Some set → Holds state set → ⊥

-- no trace has anything to do, and none anything new
abbrev pub OffersNothing : Machine → List (List ℕ × Kept) → Type 0
OffersNothing machine sets = HoldsOfNone Offers machine sets

abbrev pub OffersNothingNew : Machine → List (List ℕ × Kept) → Type 0
OffersNothingNew machine sets = HoldsOfNone OffersNew machine sets

-- tasks may be taken of the trace: it offers, and where some trace offers what wasn't handed out, so does it
pub record ComesFirst (machine : Machine) (sets : List (List ℕ × Kept)) (state : TraceState) (set : Kept) : Type 0 where
  pub offers : Offers state set
  pub prefers : OffersNothingNew machine sets ⊎ OffersNew state set

-- the tasks were handed out of the set of one trace
pub record TakesOfOne (machine : Machine) (old : List (List ℕ × Kept)) (n : ℕ) (tasks : List Task) (new : List (List ℕ × Kept)) : Type 0 where
  pub name : List ℕ
  pub state : TraceState
  pub there : trace_named machine name ≡ Some state
  pub taken : Becomes old name (λ a b. ComesFirst machine old state a × (b.initials ≡ a.initials) × Hands name state.sequences n a.members tasks b.members) new

-- at most n tasks were taken, and none only where n is 0 or there is nothing to do
abbrev pub TakesTasks : Machine → List (List ℕ × Kept) → ℕ → List Task → List (List ℕ × Kept) → Type 0
TakesTasks machine old n tasks new =
    ((tasks ≡ []) × (new ≡ old) × (n ≢ 0 → OffersNothing machine old)) ⊎ TakesOfOne machine old n tasks new

-- these tasks are given; or None: memory was refused, and nothing was handed out
pub record IsTaking (old : BookState) (n : ℕ) (given : Option (List Task)) (new : BookState) : Type 0 where
  pub unchanged : IsUnchanged old new
  pub steps : new.steps ≡ old.steps
  pub takes :
      MatchOption given ((new.sets ≡ old.sets) × (new.results ≡ old.results))
      (λ tasks. TakesTasks old.machine old.sets n tasks new.sets × (new.results ≡ with_taken old.results (length tasks)))

-- ---- delivering

-- what becomes of an outcome: where its trace isn't there it is stale
abbrev pub Meets : Machine → List (List ℕ × Kept) → Expanded → Fate → List (List ℕ × Kept) → Type 0
Meets machine old outcome fate new =
    MatchOption (trace_named machine outcome.task.trace) ((fate ≡ Stale) × (new ≡ old)) (λ state.
    Becomes old outcome.task.trace (λ a b. (b.initials ≡ a.initials) × Accepts state.sequences a.members outcome.task state.budget b.members fate) new)

-- the outcomes meet these fates, one after the other
abbrev pub MeetAll : Machine → List (List ℕ × Kept) → List Expanded → List Fate → List (List ℕ × Kept) → Type 0
MeetAll machine old [] fates new = (fates ≡ []) × (new ≡ old)
MeetAll machine old (outcome ∷ outcomes) fates new =
    (mid : List (List ℕ × Kept)) × (fate : Fate) × (others : List Fate)
    × Meets machine old outcome fate mid × MeetAll machine mid outcomes others new × (fates ≡ fate ∷ others)

-- the totals with these fates too
abbrev pub with_fates : Results → List Fate → Results
with_fates results [] = results
with_fates results (fate ∷ fates) = with_fates (with_fate results fate) fates

-- what became of these outcomes
pub record Delivers (machine : Machine) (old : List (List ℕ × Kept)) (outcomes : List Expanded) (delivered : Results) (new : List (List ℕ × Kept)) : Type 0 where
  pub fates : List Fate
  pub meet : MeetAll machine old outcomes fates new
  pub counted : delivered ≡ with_fates none_counted fates

pub record IsDelivery (old : BookState) (outcomes : List Expanded) (delivered : Results) (new : BookState) : Type 0 where
  pub unchanged : IsUnchanged old new
  pub steps : new.steps ≡ old.steps
  pub delivers : Delivers old.machine old.sets outcomes delivered new.sets
  pub results : new.results ≡ sum_of old.results delivered
