-- How many tasks are taken, and how many outcomes a delivery counts.
use Rattle.std.proofs.Common.{◌≡◌, ℕ, ◌+◌, ◌≤◌, ◌<◌, ◌^◌, List, [], ◌∷◌, length, refl, ap, arith, ⊎_elim, suc, ◌∙◌}
use Rattle.std.specs.Prelude.{Some}
use Rattle.std.specs.List.{AllZip}
use Rattle.scm_results.specs.declared.results.Results.{Results}
use Rattle.scm_results.specs.declared.fate.Fate.{Fate}
use Rattle.scm_results.specs.Totals.{capped, none_counted, with_fate, sum_of, delivered_of}
use Rattle.scm_results.specs.laws.TotalLaws.{delivered_of-with_fate, delivered_of-sum_of}
use Rattle.scm_results.specs.Tallies.{Counted, RisesAlike}
use Rattle.scm_expand.specs.declared.task.Task.{Task}
use Rattle.scm_expand.specs.Outcomes.{Expanded}
use Rattle.scm_book.specs.Machine.{Machine}
use Rattle.scm_book.specs.Journal.{BookState}
use Rattle.scm_book.specs.inner.Workers.{IsTaking, TakesOfOne, MeetAll, with_fates, IsDelivery}

same_length : {A B : Type 0} (P : A → B → Type 0) (xs : List A) (ys : List B) → AllZip P xs ys → length xs ≡ length ys
same_length P [] [] all = refl
same_length P [] (y ∷ ys) all = absurd all
same_length P (x ∷ xs) [] all = absurd all
same_length P (x ∷ xs) (y ∷ ys) all = ap suc (same_length P xs ys all.1)

-- no more tasks than were asked for
pub most_taken : (old new : BookState) (n : ℕ) (tasks : List Task) → IsTaking old n (Some tasks) new → length tasks ≤ n
most_taken old new n tasks taking =
    ⊎_elim
    (λ nothing. let e : length tasks ≡ 0 = ap length nothing.0 in omega (arith, e))
    (λ (one : TakesOfOne old.machine old.sets n tasks new.sets).
    let hands = one.taken.leads.2 in
    let few = hands.few in
    let same = same_length _ hands.pairs tasks hands.tasks in
    omega (arith, few, same))
    taking.takes.0

-- a delivery of outcomes takes nothing
pub none_taken : (old new delivered : Results) (before after : Counted) → old.taken < 2 ^ 64 → new ≡ sum_of old delivered → delivered.taken ≡ 0
    → RisesAlike old new before after → after.taken ≡ before.taken
none_taken old new delivered before after small is none rises =
    let e : new.taken ≡ capped (old.taken + delivered.taken) = ap (λ (r : Results). r.taken) is in
    let r = rises.taken in
    omega (arith, e, none, r, small)

one_fate_each : (machine : Machine) (old new : BookState) (outcomes : List Expanded) (fates : List Fate)
    → MeetAll machine old.sets outcomes fates new.sets → length fates ≡ length outcomes
one_fate_each machine old new [] fates meet = ap length meet.0
one_fate_each machine old new (outcome ∷ outcomes) fates (mid, fate, others, first, rest, is) =
    ap length is ∙ ap suc (one_fate_each machine (record old { sets = mid }) new outcomes others rest)

no_more_than_fates : (r : Results) (fates : List Fate) → delivered_of (with_fates r fates) ≤ delivered_of r + length fates
no_more_than_fates r [] = omega arith
no_more_than_fates r (fate ∷ fates) =
    let others = no_more_than_fates (with_fate r fate) fates in
    let one = delivered_of-with_fate r fate in
    omega (arith, others, one)

-- no more is counted than outcomes were delivered
pub most_delivered : (old new : BookState) (outcomes : List Expanded) (delivered from to : Results) (before after : Counted)
    → IsDelivery old outcomes delivered new → to ≡ sum_of from delivered → RisesAlike from to before after
    → after.delivered ≤ before.delivered + length outcomes
most_delivered old new outcomes delivered from to before after delivery is rises =
    let counted : delivered_of delivered ≡ delivered_of (with_fates none_counted delivery.delivers.fates) = ap delivered_of delivery.delivers.counted in
    let most = no_more_than_fates none_counted delivery.delivers.fates in
    let each = one_fate_each old.machine old new outcomes delivery.delivers.fates delivery.delivers.meet in
    let sum : delivered_of to ≡ capped (delivered_of from + delivered_of delivered) = ap delivered_of is ∙ delivered_of-sum_of from delivered in
    let rise = rises.delivered in
    omega (arith, counted, most, each, sum, rise)
