-- A name enters with its pass, or stays as it was.
use Rattle.std.proofs.Common.{◌≡◌, ℕ, suc, ◌+◌, ◌<◌, ◌≤◌, List, [], ◌∷◌, ◌++◌, length, refl, sym, ap, ◌∙◌, subst, arith, length-append, Bool, true, false, take}
use Rattle.std.specs.List.{list_any, position_or_len}
use Rattle.std.proofs.Math.Seq.{take-append_seam}
use Rattle.std.proofs.lemmas.Bool.{or_parts}
use Rattle.scm_sequences.specs.declared.limits.TheConstants.{MOST_SESSIONS}
use Rattle.scm_cells.specs.CellLists.{name_eq}
use Rattle.scm_shared.specs.Passes.{Known, newcomer}
use Rattle.scm_sessions.specs.Script.{session_of, is_entered, with_name, is_turned_away}
use Rattle.scm_sessions.specs.inner.Callers.{callers, AreNumberedFrom, made_by}
use Rattle.scm_sessions.proofs.Entering.{with_name_within}
use Rattle.scm_sessions.proofs.Naming.{found_within, place_within}
use Rattle.scm_sessions.proofs.Making.{made-push, numbered-push, name_eq-refl, first_session, next_session}

-- an element that is not there has the next place
not_found : {X : Type 0} (test : X → Bool) (xs : List X) → list_any test xs ≡ false → position_or_len test xs ≡ length xs
not_found test [] none = refl
not_found test (x ∷ xs) none =
    let parts = or_parts (test x) (list_any test xs) none in
    let first : test x ≡ false = parts.0 in let rest = not_found test xs parts.1 in rw first (omega (arith, rest))

-- a name that has a place was there
known_name : (names : List (List ℕ)) (name : List ℕ) (b : Bool) → is_entered names name ≡ b → session_of names name < length names → with_name names name ≡ names
known_name names name true is within = rw is refl
known_name names name false is within = let past = not_found (name_eq name) names is in absurd (omega (arith, past, within))

-- one that has the next place was not
new_name : (names : List (List ℕ)) (name : List ℕ) (b : Bool) → is_entered names name ≡ b → length names ≤ session_of names name → with_name names name ≡ names ++ name ∷ []
new_name names name true is past = let within = found_within (name_eq name) names is in absurd (omega (arith, past, within))
new_name names name false is past = rw is refl

-- and has it then
place_of_new : (names : List (List ℕ)) (name : List ℕ) → length names ≤ session_of names name → session_of (names ++ name ∷ []) name ≡ length names
place_of_new [] name past = let same = name_eq-refl name in rw same refl
place_of_new (n ∷ names) name past = at (name_eq name n) (λ later. place_of_new names name later) refl
  where
    at : (b : Bool) → (length names ≤ session_of names name → session_of (names ++ name ∷ []) name ≡ length names) → name_eq name n ≡ b
        → session_of (n ∷ names ++ name ∷ []) name ≡ length (n ∷ names)
    at true others is = let first : session_of (n ∷ names) name ≡ 0 = first_session n names name is in absurd (omega (arith, first, past))
    at false others is =
        let later : session_of (n ∷ names) name ≡ suc (session_of names name) = next_session n names name is in
        let there = others (omega (arith, later, past)) in
        next_session n (names ++ name ∷ []) name is ∙ omega (arith, there)

-- ---- names and passes after a name that was there

module _ (old new : List (List ℕ)) (name : List ℕ) (passes : List Known) (place : ℕ) (count : length passes ≡ length old)
    (is_place : place ≡ session_of old name) (is_new : new ≡ with_name old name) (within : place < length passes) where
  same_names : new ≡ old
  same_names = is_new ∙ known_name old name (is_entered old name) refl (omega (arith, count, is_place, within))

  pub known_invariant : length old ≤ MOST_SESSIONS → AreNumberedFrom 0 passes
      → (length new ≤ MOST_SESSIONS) × (length passes ≡ length new) × AreNumberedFrom 0 passes
  known_invariant most numbered =
      (subst (λ (ns : List (List ℕ)). length ns ≤ MOST_SESSIONS) (sym same_names) most, count ∙ ap length (sym same_names), numbered)

  pub known_made : (other : List ℕ) → made_by (callers new passes) other ≡ made_by (callers old passes) other
  known_made other = ap (λ (ns : List (List ℕ)). made_by (callers ns passes) other) same_names

-- ---- after one that was not

module _ (old new : List (List ℕ)) (name : List ℕ) (passes : List Known) (place : ℕ) (count : length passes ≡ length old)
    (is_place : place ≡ session_of old name) (is_new : new ≡ with_name old name) (past : length passes ≤ place) where
  more_names : new ≡ old ++ name ∷ []
  more_names = is_new ∙ new_name old name (is_entered old name) refl (omega (arith, count, is_place, past))

  next_place : place ≡ length old
  next_place = let le = place_within (name_eq name) old in omega (arith, le, count, is_place, past)

  module _ (later : List Known) (entered : later ≡ passes ++ newcomer (length passes) ∷ []) where
    pub new_invariant : length old ≤ MOST_SESSIONS → is_turned_away old name ≡ false → AreNumberedFrom 0 passes
        → (length new ≤ MOST_SESSIONS) × (length later ≡ length new) × AreNumberedFrom 0 later
    new_invariant most away numbered =
        let within : length new ≤ MOST_SESSIONS = subst (λ (ns : List (List ℕ)). length ns ≤ MOST_SESSIONS) (sym is_new) (with_name_within old name most away) in
        let both : length later ≡ length new =
        ap length entered ∙ length-append passes _ ∙ ap (λ n. n + 1) count ∙ sym (length-append old (name ∷ [])) ∙ ap length (sym more_names) in
        (within, both, subst (AreNumberedFrom 0) (sym entered) (numbered-push 0 passes (length passes) (omega arith) numbered))

    pub new_place : (place ≡ session_of new name) × (place < length later)
    new_place =
        let le : length old ≤ session_of old name = omega (arith, count, is_place, past) in
        let there : session_of new name ≡ length old = ap (λ (ns : List (List ℕ)). session_of ns name) more_names ∙ place_of_new old name le in
        let longer : length later ≡ length passes + 1 = ap length entered ∙ length-append passes _ in
        (next_place ∙ sym there, omega (arith, next_place, count, longer))

    pub new_made : (other : List ℕ) → made_by (callers new later) other ≡ made_by (callers old passes) other
    new_made other = (λ i. made_by (callers (more_names i) (entered i)) other) ∙ made-push old passes name other (length passes) count

  -- the pass was refused, and the name goes again
  module _ (back : List (List ℕ)) (cut : back ≡ take place new) where
    same_again : back ≡ old
    same_again = cut ∙ ap (λ n. take n new) next_place ∙ ap (λ (ns : List (List ℕ)). take (length old) ns) more_names ∙ take-append_seam old (name ∷ [])

    pub back_invariant : length old ≤ MOST_SESSIONS → AreNumberedFrom 0 passes
        → (length back ≤ MOST_SESSIONS) × (length passes ≡ length back) × AreNumberedFrom 0 passes
    back_invariant most numbered =
        (subst (λ (ns : List (List ℕ)). length ns ≤ MOST_SESSIONS) (sym same_again) most, count ∙ ap length (sym same_again), numbered)

    pub back_made : (other : List ℕ) → made_by (callers back passes) other ≡ made_by (callers old passes) other
    back_made other = ap (λ (ns : List (List ℕ)). made_by (callers ns passes) other) same_again
