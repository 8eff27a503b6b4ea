-- Lines that follow say what is so in every schedule in which the assumptions of their block hold, so a derivation that refutes
-- leaves none.
use Rattle.std.proofs.Common.{ℕ, zero, suc, ◌≡◌, ◌+◌, ◌-◌, ◌<◌, ◌≤◌, ◌⊎◌, min, List, length, take, drop, Option, None, Some, IsSome, IsSomeAnd, All, slice_get, slice_index_or, refl, sym, ap, ◌∙◌, subst, ⊎_elim, inl, inr, arith}
use Rattle.std.proofs.lemmas.Bool.{cases_lt}
use Rattle.std.proofs.lemmas.List.{length-take, length-drop, get_or-take, get_or-drop}
use Rattle.std.proofs.lemmas.Option.{get_or_from_slice_get, slice_get_within, slice_get-get_or}
use Rattle.scm_sequences.specs.Traces.{Trace, IsSchedule, IsConsistent}
use Rattle.scm_orders.specs.declared.derivation.Fact.{Fact}
use Rattle.scm_orders.specs.declared.derivation.Line.{Line}
use Rattle.scm_orders.specs.declared.derivation.Rule.{Rule}
use Rattle.scm_orders.specs.declared.derivation.Rule.TheVariants.{Joined, Hidden as HiddenBy, Source, AfterAll, BeforeAll, AfterSource, Assumed, Lemma}
use Rattle.scm_orders.specs.Facts.{IsContradiction, IsAssumed, opened, IsBehind, IsVisible}
use Rattle.scm_orders.specs.inner.Moments.{Says, AssumptionsHold}
use Rattle.scm_orders.specs.Refuting.{Assumes, LeavesOne, IsLemma, IsOf, FollowsBy, Follows, hints_of, AllFollow, IsEnd, OrdersRefute}
use Rattle.scm_orders.proofs.PlaceLaws.{none_is}
use Rattle.scm_orders.proofs.RuleLaws.{Holds, AreKnown, drawn, lemma_rule, contradicts}

-- a line among the first k is among all
of_taken : (lines : List Line) (k j : ℕ) (line : Line) → slice_get (take k lines) j ≡ Some line → (j < k) × (slice_get lines j ≡ Some line)
of_taken lines k j line is =
    let short : length (take k lines) ≡ min k (length lines) = length-take k lines in
    let inside : j < length (take k lines) = slice_get_within (take k lines) j line is in
    let in_k : j < k = omega arith in
    let at : slice_index_or lines j line ≡ line = sym (get_or-take k lines j line in_k) ∙ get_or_from_slice_get (take k lines) j line line is in
    (in_k, subst (λ x. slice_get lines j ≡ Some x) at (slice_get-get_or lines j line (omega arith)))

-- and so is one of all among the first k
taken : (lines : List Line) (k j : ℕ) (line : Line) → j < k → slice_get lines j ≡ Some line → slice_get (take k lines) j ≡ Some line
taken lines k j line below is =
    let short : length (take k lines) ≡ min k (length lines) = length-take k lines in
    let inside : j < length lines = slice_get_within lines j line is in
    let at : slice_index_or (take k lines) j line ≡ line = get_or-take k lines j line below ∙ get_or_from_slice_get lines j line line is in
    subst (λ x. slice_get (take k lines) j ≡ Some x) at (slice_get-get_or (take k lines) j line (omega arith))

of_dropped : (lines : List Line) (n j : ℕ) (line : Line) → slice_get (drop n lines) j ≡ Some line → slice_get lines (n + j) ≡ Some line
of_dropped lines n j line is =
    let short : length (drop n lines) ≡ length lines - n = length-drop n lines in
    let inside : j < length (drop n lines) = slice_get_within (drop n lines) j line is in
    let at : slice_index_or lines (n + j) line ≡ line = sym (get_or-drop n lines j line) ∙ get_or_from_slice_get (drop n lines) j line line is in
    subst (λ x. slice_get lines (n + j) ≡ Some x) at (slice_get-get_or lines (n + j) line (omega arith))

dropped : (lines : List Line) (n j : ℕ) (line : Line) → slice_get lines (n + j) ≡ Some line → slice_get (drop n lines) j ≡ Some line
dropped lines n j line is =
    let short : length (drop n lines) ≡ length lines - n = length-drop n lines in
    let inside : n + j < length lines = slice_get_within lines (n + j) line is in
    let at : slice_index_or (drop n lines) j line ≡ line = get_or-drop n lines j line ∙ get_or_from_slice_get lines (n + j) line line is in
    subst (λ x. slice_get (drop n lines) j ≡ Some x) at (slice_get-get_or (drop n lines) j line (omega arith))

opened_assumed : (k : ℕ) (rule : Rule) → IsAssumed rule → opened k rule ≡ Some k
opened_assumed k Joined assumed = absurd assumed
opened_assumed k (HiddenBy by) assumed = absurd assumed
opened_assumed k Source assumed = absurd assumed
opened_assumed k AfterAll assumed = absurd assumed
opened_assumed k BeforeAll assumed = absurd assumed
opened_assumed k AfterSource assumed = absurd assumed
opened_assumed k Assumed assumed = refl
opened_assumed k (Lemma end) assumed = absurd assumed

same_line : (lines : List Line) (j : ℕ) (one other : Line) → slice_get lines j ≡ Some one → slice_get lines j ≡ Some other → one ≡ other
same_line lines j one other at_one at_other = let same : Some one ≡ Some other = sym at_one ∙ at_other in cc

module _ (t : Trace) (lines : List Line) (hints s : List ℕ) (follow : AllFollow t lines hints) (schedule : IsSchedule t s) where
  -- ---- the assumptions of a block

  -- an assumption begins its block, or is in that of an assumption before it
  record GoesOnAt (k : ℕ) (line : Line) : Type 0 where
    before : Line
    at : slice_get lines (k - 1) ≡ Some before
    later : k - 1 < k
    open_is : IsSome before.block
    assumed : IsAssumed before.rule
    same : line.block ≡ before.block

  assumption_at : (k : ℕ) (line : Line) → slice_get lines k ≡ Some line → IsAssumed line.rule → (line.block ≡ Some k) ⊎ GoesOnAt k line
  assumption_at k line is assumed = go (slice_get (take k lines) (length (take k lines) - 1)) refl (follow.each k line is).follows.placed where
    long : length (take k lines) ≡ k
    long =
        let short : length (take k lines) ≡ min k (length lines) = length-take k lines in
        let inside : k < length lines = slice_get_within lines k line is in
        omega arith

    begins : line.block ≡ opened (length (take k lines)) line.rule → line.block ≡ Some k
    begins at = at ∙ opened_assumed (length (take k lines)) line.rule assumed ∙ ap Some long

    go : (o : Option Line) → slice_get (take k lines) (length (take k lines) - 1) ≡ o → IsBehind (length (take k lines)) o line → (line.block ≡ Some k) ⊎ GoesOnAt k line
    go None e at = inl (begins at)
    go (Some before) e at = ⊎_elim
        (λ both. let found : (k - 1 < k) × (slice_get lines (k - 1) ≡ Some before) = of_taken lines k (k - 1) before (subst (λ n. slice_get (take k lines) (n - 1) ≡ Some before) long e) in
        inr (record { before = before; at = found.1; later = found.0; open_is = both.0.inside; assumed = both.1.assumes assumed; same = both.1.same }))
        (λ both. inl (begins both.1))
        at

  -- outside of blocks there are none
  none_outside : AssumptionsHold t s lines None
  none_outside = record {
    each = λ k line is assumed outside. absurd (⊎_elim
        (λ at. let none : ◌≡◌ {A = Option ℕ} None (Some k) = sym outside ∙ at in cc)
        (λ on. none_is (subst IsSome (sym on.same ∙ outside) on.open_is))
        (assumption_at k line is assumed));
  }

  -- those of a block stand one after the other
  within : (block count : ℕ) → 0 < count → (IsSomeAnd (slice_get lines (block + count)) (Assumes block) → ⊥) → (n j : ℕ) (line : Line) → j < n → slice_get lines j ≡ Some line → Assumes block line → (block ≤ j) × (j < block + count)
  within block count some ends zero j line below is assumes = absurd (omega (arith, below))
  within block count some ends (suc n) j line below is assumes = ⊎_elim
      (λ at. let same : Some block ≡ Some j = sym assumes.inside ∙ at in let e : block ≡ j = cc in (omega (arith, e), omega (arith, e, some)))
      (λ on. after on (within block count some ends n (j - 1) on.before (omega (arith, on.later, below)) on.at (record { rule = on.assumed; inside = sym on.same ∙ assumes.inside })))
      (assumption_at j line is assumes.rule) where
        after : GoesOnAt j line → (block ≤ j - 1) × (j - 1 < block + count) → (block ≤ j) × (j < block + count)
        after on both = ⊎_elim
            (λ less. (omega (arith, both.0), less))
            (λ past. let last : j ≡ block + count = omega (arith, past, both.1, on.later) in
            absurd (ends (subst (λ m. IsSomeAnd (slice_get lines m) (Assumes block)) last (subst (λ o. IsSomeAnd o (Assumes block)) (sym is) assumes))))
            (cases_lt j (block + count))

  -- ---- line k, where all lines before it hold where the assumptions of their blocks do

  module _ (k : ℕ) (line : Line) (at_k : slice_get lines k ≡ Some line) (holds : (j : ℕ) (l : Line) → j < k → slice_get lines j ≡ Some l → AssumptionsHold t s lines l.block → Holds t s l.fact) where
    earlier_of : (j : ℕ) (l : Line) → slice_get (take k lines) j ≡ Some l → IsOf t l.fact
    earlier_of j l is = (follow.each j l (of_taken lines k j l is).1).follows.operations

    known : AssumptionsHold t s lines line.block → AreKnown t s schedule (take k lines) (hints_of hints line)
    known hold i d inside l is = go (slice_get (take k lines) (slice_index_or (hints_of hints line) i d)) is ((follow.each k line at_k).follows.named i d inside) where
      visible : IsVisible l.block line.block → AssumptionsHold t s lines l.block
      visible seen = ⊎_elim (λ outside. subst (AssumptionsHold t s lines) (sym outside) none_outside) (λ same. subst (AssumptionsHold t s lines) (sym same) hold) seen

      go : (o : Option Line) → o ≡ Some l → IsSomeAnd o (λ x. IsVisible x.block line.block) → Holds t s l.fact
      go None e seen = absurd seen
      go (Some x) e seen =
          let both : (slice_index_or (hints_of hints line) i d < k) × (slice_get lines (slice_index_or (hints_of hints line) i d) ≡ Some l) = of_taken lines k (slice_index_or (hints_of hints line) i d) l is in
          let same : x ≡ l = cc in
          holds (slice_index_or (hints_of hints line) i d) l both.0 both.1 (visible (subst (λ y. IsVisible y.block line.block) same seen))

    -- where the assumptions that a lemma counts hold, so do all of the block
    all_hold_in : (block count : ℕ) → 0 < count → (IsAssumed line.rule → ⊥)
        → ((i : ℕ) → i < count → IsSomeAnd (slice_get (drop block (take k lines)) i) (λ l. Assumes block l × Says t s l.fact))
        → (IsSomeAnd (slice_get (drop block (take k lines)) count) (Assumes block) → ⊥) → AssumptionsHold t s lines (Some block)
    all_hold_in block count some other each no_more = record {
      each = λ j l is assumed inside.
          let both : (block ≤ j) × (j < block + count) = within block count some ends (suc j) j l (omega arith) is (record { rule = assumed; inside = inside }) in
          said j l is both (slice_get (drop block (take k lines)) (j - block)) refl (each (j - block) (omega (arith, both.0, both.1)));
    } where
      said : (j : ℕ) (l : Line) → slice_get lines j ≡ Some l → (block ≤ j) × (j < block + count) → (o : Option Line) → slice_get (drop block (take k lines)) (j - block) ≡ o
          → IsSomeAnd o (λ l. Assumes block l × Says t s l.fact) → Says t s l.fact
      said j l is both None e at = absurd at
      said j l is both (Some x) e at =
          let sum : block + (j - block) ≡ j = omega (arith, both.0) in
          let there : slice_get lines j ≡ Some x = subst (λ m. slice_get lines m ≡ Some x) sum (of_taken lines k (block + (j - block)) x (of_dropped (take k lines) block (j - block) x e)).1 in
          subst (λ y. Says t s y.fact) (same_line lines j x l there is) at.1

      last_below : block + (count - 1) < k
      last_below = go (slice_get (drop block (take k lines)) (count - 1)) refl (each (count - 1) (omega (arith, some))) where
        go : (o : Option Line) → slice_get (drop block (take k lines)) (count - 1) ≡ o → IsSomeAnd o (λ l. Assumes block l × Says t s l.fact) → block + (count - 1) < k
        go None e at = absurd at
        go (Some x) e at = (of_taken lines k (block + (count - 1)) x (of_dropped (take k lines) block (count - 1) x e)).0

      ends : IsSomeAnd (slice_get lines (block + count)) (Assumes block) → ⊥
      ends = go (slice_get lines (block + count)) refl where
        go : (o : Option Line) → slice_get lines (block + count) ≡ o → IsSomeAnd o (Assumes block) → ⊥
        go None e at = at
        go (Some x) e at = ⊎_elim
            (λ below. no_more (subst (λ o. IsSomeAnd o (Assumes block)) (sym (dropped (take k lines) block count x (taken lines k (block + count) x below e))) at))
            (λ past. let last : block + count ≡ k = omega (arith, past, last_below, some) in
            other (subst (λ y. IsAssumed y.rule) (same_line lines k x line (subst (λ m. slice_get lines m ≡ Some x) last e) at_k) at.rule))
            (cases_lt (block + count) k)

    by_lemma : (fact : Fact) (end : ℕ) → AreKnown t s schedule (take k lines) (hints_of hints line) → (IsAssumed line.rule → ⊥) → IsLemma t (take k lines) (hints_of hints line) fact end → Says t s fact
    by_lemma fact end named other is = go (slice_get (take k lines) end) refl is where
      closed : (l : Line) → slice_get (take k lines) end ≡ Some l → IsContradiction l.fact → (o : Option ℕ) → l.block ≡ o
          → IsSomeAnd o (λ block. LeavesOne t (take k lines) (hints_of hints line) fact block (drop block (take k lines))) → Says t s fact
      closed l e ends None inside leaves = absurd leaves
      closed l e ends (Some block) inside leaves = lemma_rule t s schedule (take k lines) (hints_of hints line) named fact block (drop block (take k lines))
          (λ j x x_at. earlier_of (block + j) x (of_dropped (take k lines) block j x x_at))
          (λ all. let both : (end < k) × (slice_get lines end ≡ Some l) = of_taken lines k end l e in
          contradicts t s schedule l.fact
          (holds end l both.0 both.1 (subst (AssumptionsHold t s lines) (sym inside) (all_hold_in block (length (hints_of hints line) + 1) (omega arith) other all leaves.all)))
          ends)
          leaves

      go : (o : Option Line) → slice_get (take k lines) end ≡ o → IsSomeAnd o (λ l. IsContradiction l.fact × IsSomeAnd l.block (λ block. LeavesOne t (take k lines) (hints_of hints line) fact block (drop block (take k lines)))) → Says t s fact
      go None e both = absurd both
      go (Some l) e both = closed l e both.0 l.block refl both.1

    by_rule : (fact : Fact) (rule : Rule) → line.rule ≡ rule → IsOf t fact → AreKnown t s schedule (take k lines) (hints_of hints line) → (IsAssumed rule → Says t s fact) → FollowsBy t (take k lines) (hints_of hints line) fact rule → Says t s fact
    by_rule fact Joined e of named assumed is = drawn t s schedule (take k lines) (hints_of hints line) named fact Joined of is
    by_rule fact (HiddenBy by) e of named assumed is = drawn t s schedule (take k lines) (hints_of hints line) named fact (HiddenBy by) of is
    by_rule fact Source e of named assumed is = drawn t s schedule (take k lines) (hints_of hints line) named fact Source of is
    by_rule fact AfterAll e of named assumed is = drawn t s schedule (take k lines) (hints_of hints line) named fact AfterAll of is
    by_rule fact BeforeAll e of named assumed is = drawn t s schedule (take k lines) (hints_of hints line) named fact BeforeAll of is
    by_rule fact AfterSource e of named assumed is = drawn t s schedule (take k lines) (hints_of hints line) named fact AfterSource of is
    by_rule fact Assumed e of named assumed is = assumed is
    by_rule fact (Lemma end) e of named assumed is = by_lemma fact end named (λ other. subst IsAssumed e other) is

    line_holds : AssumptionsHold t s lines line.block → Holds t s line.fact
    line_holds hold =
        let follows : Follows t (take k lines) (hints_of hints line) line = (follow.each k line at_k).follows in
        record { of = follows.operations; says = by_rule line.fact line.rule refl follows.operations (known hold) (λ assumed. hold.each k line at_k assumed refl) follows.rule }

  -- each of the first n lines does
  holds_below : (n k : ℕ) (line : Line) → k < n → slice_get lines k ≡ Some line → AssumptionsHold t s lines line.block → Holds t s line.fact
  holds_below zero k line below is = absurd (omega arith)
  holds_below (suc n) k line below is = line_holds k line is (λ j l less at. holds_below n j l (omega (arith, less, below)) at)

  holds_at : (k : ℕ) (line : Line) → slice_get lines k ≡ Some line → AssumptionsHold t s lines line.block → Holds t s line.fact
  holds_at k line is = holds_below (suc k) k line (omega arith) is

  pub all_hold : All (λ line. AssumptionsHold t s lines line.block → Says t s line.fact) lines
  all_hold k d inside hold = (holds_at k (slice_index_or lines k d) (slice_get-get_or lines k d inside) hold).says

  pub outside_hold : All (λ line. line.block ≡ None → Says t s line.fact) lines
  outside_hold k d inside outside = all_hold k d inside (subst (AssumptionsHold t s lines) (sym outside) none_outside)

  pub no_end : (o : Option Line) → slice_get lines (length lines - 1) ≡ o → IsSomeAnd o IsEnd → ⊥
  no_end None is ends = absurd ends
  no_end (Some line) is ends = contradicts t s schedule line.fact (holds_at (length lines - 1) line is (subst (AssumptionsHold t s lines) (sym ends.outside) none_outside)) ends.contradicts

pub none_left : (t : Trace) (lines : List Line) (hints : List ℕ) → OrdersRefute t lines hints → IsConsistent t → ⊥
none_left t lines hints refutes consistent = no_end t lines hints consistent.schedule refutes.follow consistent.is_schedule (slice_get lines (length lines - 1)) refl refutes.ends
