-- What delivered outcomes make of the sets, and how their fates are counted.
use Rattle.std.proofs.Common.{◌≡◌, ℕ, List, [], ◌∷◌, ◌++◌, Option, Some, None, MatchOption, refl, sym, ap, ◌∙◌, subst}
use Rattle.std.specs.Map.{set_value}
use Rattle.scm_results.specs.declared.fate.Fate.{Fate}
use Rattle.scm_results.specs.declared.fate.Fate.TheVariants.{Accepted, Known, Stale, Full, Refused}
use Rattle.scm_results.specs.declared.results.Results.{Results}
use Rattle.scm_results.specs.Totals.{none_counted, with_fate}
use Rattle.scm_expand.specs.declared.task.Task.{Task}
use Rattle.scm_expand.specs.Outcomes.{Expanded}
use Rattle.scm_cells.specs.CellLists.{name_eq}
use Rattle.scm_reach.specs.Kept.{Kept, Member}
use Rattle.scm_reach.specs.inner.Accepting.{Accepts}
use Rattle.scm_book.specs.Machine.{Machine, TraceState, trace_named}
use Rattle.scm_book.specs.inner.Sets.{KeptTrace, set_named, Becomes}
use Rattle.scm_book.specs.inner.Workers.{Meets, MeetAll, with_fates, Delivers}

-- ---- one outcome

-- what became of an outcome in a trace's own fields, said of the trace and its budget
pub accepts_as : (inside trace : KeptTrace) (task : Task) (limit : ℕ) (new : List Member) (fate : Fate) → inside ≡ trace → limit ≡ inside.state.budget → Accepts inside.state.sequences inside.set.members task limit new fate
    → Accepts trace.state.sequences trace.set.members task trace.state.budget new fate
accepts_as inside trace task limit new fate is is_limit accepts =
    subst (λ (k : KeptTrace). Accepts k.state.sequences k.set.members task k.state.budget new fate) is
    (subst (λ n. Accepts inside.state.sequences inside.set.members task n new fate) is_limit accepts)

module _ (machine : Machine) (sets new : List (List ℕ × Kept)) (outcome : Expanded) (fate : Fate) (name : List ℕ) (is : name ≡ outcome.task.trace) where
  -- what becomes of the outcome, said of its trace under another word for the name
  abbrev MeetsUnder : List ℕ → Option TraceState → Type 0
  MeetsUnder n o = MatchOption o ((fate ≡ Stale) × (new ≡ sets)) (λ state. Becomes sets n (λ a b. (b.initials ≡ a.initials) × Accepts state.sequences a.members outcome.task state.budget b.members fate) new)

  -- the trace isn't there
  pub meets_none : trace_named machine name ≡ None → fate ≡ Stale → new ≡ sets → Meets machine sets outcome fate new
  meets_none none stale same = subst (λ n. MeetsUnder n (trace_named machine n)) is (subst (MeetsUnder name) (sym none) (stale, same))

  -- the trace's set took the outcome
  pub meets_some : (state : TraceState) (old kept : Kept) → trace_named machine name ≡ Some state → set_named sets name ≡ Some old → kept.initials ≡ old.initials
      → Accepts state.sequences old.members outcome.task state.budget kept.members fate → new ≡ set_value (name_eq name) sets kept → Meets machine sets outcome fate new
  meets_some state old kept there found initials accepts written =
      subst (λ n. MeetsUnder n (trace_named machine n)) is
      (subst (MeetsUnder name) (sym there) (record { before = old; after = kept; found = found; leads = (initials, accepts); written = written }))

-- ---- outcomes, one after the other

MeetAll-more : (machine : Machine) (old mid new : List (List ℕ × Kept)) (outcomes : List Expanded) (fates : List Fate) (outcome : Expanded) (fate : Fate) → MeetAll machine old outcomes fates mid → Meets machine mid outcome fate new
    → MeetAll machine old (outcomes ++ outcome ∷ []) (fates ++ fate ∷ []) new
MeetAll-more machine old mid new [] fates outcome fate meet meets =
    (new, fate, [], subst (λ sets. Meets machine sets outcome fate new) meet.1 meets, (refl, refl), ap (λ fs. fs ++ fate ∷ []) meet.0)
MeetAll-more machine old mid new (first ∷ outcomes) fates outcome fate meet meets = (
  meet.0,
  meet.1,
  meet.2 ++ fate ∷ [],
  meet.3,
  MeetAll-more machine meet.0 mid new outcomes meet.2 outcome fate meet.4 meets,
  ap (λ fs. fs ++ fate ∷ []) meet.5,
)

with_fates-more : (r : Results) (fates : List Fate) (fate : Fate) → with_fates r (fates ++ fate ∷ []) ≡ with_fate (with_fates r fates) fate
with_fates-more r [] fate = refl
with_fates-more r (first ∷ fates) fate = with_fates-more (with_fate r first) fates fate

module _ (machine : Machine) (old : List (List ℕ × Kept)) where
  -- one more
  pub Delivers-more : (mid new : List (List ℕ × Kept)) (outcomes : List Expanded) (delivered more : Results) (outcome : Expanded) (fate : Fate) → Delivers machine old outcomes delivered mid → Meets machine mid outcome fate new
      → more ≡ with_fate delivered fate → Delivers machine old (outcomes ++ outcome ∷ []) more new
  Delivers-more mid new outcomes delivered more outcome fate so_far meets is = record {
    fates = so_far.fates ++ fate ∷ [];
    meet = MeetAll-more machine old mid new outcomes so_far.fates outcome fate so_far.meet meets;
    counted = is ∙ ap (λ r. with_fate r fate) so_far.counted ∙ sym (with_fates-more none_counted so_far.fates fate);
  }

-- ---- what was taken stays

with_fate-taken : (r : Results) (fate : Fate) → (with_fate r fate).taken ≡ r.taken
with_fate-taken r Accepted = refl
with_fate-taken r Known = refl
with_fate-taken r Stale = refl
with_fate-taken r Full = refl
with_fate-taken r Refused = refl

with_fates-taken : (r : Results) (fates : List Fate) → (with_fates r fates).taken ≡ r.taken
with_fates-taken r [] = refl
with_fates-taken r (fate ∷ fates) = with_fates-taken (with_fate r fate) fates ∙ with_fate-taken r fate

-- a delivery takes nothing
pub Delivers-taken : (machine : Machine) (old new : List (List ℕ × Kept)) (outcomes : List Expanded) (delivered : Results) → Delivers machine old outcomes delivered new → delivered.taken ≡ 0
Delivers-taken machine old new outcomes delivered delivers = ap (λ (r : Results). r.taken) delivers.counted ∙ with_fates-taken none_counted delivers.fates
