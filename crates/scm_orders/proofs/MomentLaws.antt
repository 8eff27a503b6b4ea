-- Moments in a front: each operation of the front has one of its own, and those of one process rise.
use Rattle.std.proofs.Common.{ℕ, ◌≡◌, ◌≢◌, ◌+◌, ◌<◌, ◌≤◌, List, [], ◌∷◌, length, sym, ap, ap₂, ◌∙◌, subst, ⊎_elim, arith}
use Rattle.std.proofs.lemmas.Bool.{cases_eq, cases_lt, cond-true, cond-false, lt-ltb, le-ltb}
use Rattle.scm_sequences.specs.Traces.{count_in}
use Rattle.scm_sequences.specs.laws.FrontLaws.{count_in-nil, count_in-here, count_in-other, count_in-earlier}
use Rattle.scm_orders.specs.declared.place.Place.{Place}
use Rattle.scm_orders.specs.inner.Moments.{moment}

abbrev pub place_of : ℕ → ℕ → Place
place_of p k = record { process = p; at = k }

-- the front has the operation at this place
abbrev pub IsIn : List ℕ → Place → Type 0
IsIn front place = place.at < count_in front place.process

pub moment-earlier : (p : ℕ) (earlier : List ℕ) (x : Place) → IsIn earlier x → moment (p ∷ earlier) x ≡ moment earlier x
unfolding moment
moment-earlier p earlier x inside = cond-true _ _ _ (lt-ltb x.at (count_in earlier x.process) inside)

pub moment-newest : (p : ℕ) (earlier : List ℕ) (x : Place) → count_in earlier x.process ≤ x.at → moment (p ∷ earlier) x ≡ length earlier
unfolding moment
moment-newest p earlier x past = cond-false _ _ _ (le-ltb x.at (count_in earlier x.process) past)

none_in : (x : Place) → IsIn [] x → ⊥
none_in x inside = let none : count_in [] x.process ≡ 0 = count_in-nil x.process in omega arith

pub IsIn-earlier : (p : ℕ) (earlier : List ℕ) (x : Place) → IsIn earlier x → IsIn (p ∷ earlier) x
IsIn-earlier p earlier x inside = let more : count_in earlier x.process ≤ count_in (p ∷ earlier) x.process = count_in-earlier p earlier x.process in omega arith

pub IsIn-newest : (p : ℕ) (earlier : List ℕ) → IsIn (p ∷ earlier) (place_of p (count_in earlier p))
IsIn-newest p earlier = let more : count_in (p ∷ earlier) p ≡ count_in earlier p + 1 = count_in-here p earlier in omega arith

-- what a front has more than the earlier one is its newest place
pub is_newest : (p : ℕ) (earlier : List ℕ) (x : Place) → IsIn (p ∷ earlier) x → count_in earlier x.process ≤ x.at → x ≡ place_of p (count_in earlier p)
is_newest p earlier x inside past = ⊎_elim here other (cases_eq p x.process) where
  here : p ≡ x.process → x ≡ place_of p (count_in earlier p)
  here same =
      let more : count_in (p ∷ earlier) x.process ≡ count_in earlier x.process + 1 = subst (λ q. count_in (p ∷ earlier) q ≡ count_in earlier q + 1) same (count_in-here p earlier) in
      let at : x.at ≡ count_in earlier x.process = omega arith in
      ap₂ place_of (sym same) (at ∙ ap (count_in earlier) (sym same))

  other : p ≢ x.process → x ≡ place_of p (count_in earlier p)
  other ne = let same : count_in (p ∷ earlier) x.process ≡ count_in earlier x.process = count_in-other p earlier x.process ne in absurd (omega arith)

pub moment-below : (front : List ℕ) (x : Place) → IsIn front x → moment front x < length front
moment-below [] x inside = absurd (none_in x inside)
moment-below (p ∷ earlier) x inside = ⊎_elim (before (moment-below earlier x)) newest (cases_lt x.at (count_in earlier x.process)) where
  before : (IsIn earlier x → moment earlier x < length earlier) → IsIn earlier x → moment (p ∷ earlier) x < length (p ∷ earlier)
  before below in' = let same : moment (p ∷ earlier) x ≡ moment earlier x = moment-earlier p earlier x in' in let less : moment earlier x < length earlier = below in' in omega arith

  newest : count_in earlier x.process ≤ x.at → moment (p ∷ earlier) x < length (p ∷ earlier)
  newest past = let same : moment (p ∷ earlier) x ≡ length earlier = moment-newest p earlier x past in omega arith

-- no two operations of a front have the same moment
pub moment-injective : (front : List ℕ) (x y : Place) → IsIn front x → IsIn front y → moment front x ≡ moment front y → x ≡ y
moment-injective [] x y in_x in_y same = absurd (none_in x in_x)
moment-injective (p ∷ earlier) x y in_x in_y same =
    ⊎_elim (λ before_x. ⊎_elim (λ before_y. both (moment-injective earlier x y) before_x before_y) (λ past_y. absurd (apart x y before_x past_y same)) (cases_lt y.at (count_in earlier y.process)))
    (λ past_x. ⊎_elim (λ before_y. absurd (apart y x before_y past_x (sym same))) (λ past_y. is_newest p earlier x in_x past_x ∙ sym (is_newest p earlier y in_y past_y)) (cases_lt y.at (count_in earlier y.process)))
    (cases_lt x.at (count_in earlier x.process)) where
      both : (IsIn earlier x → IsIn earlier y → moment earlier x ≡ moment earlier y → x ≡ y) → IsIn earlier x → IsIn earlier y → x ≡ y
      both known before_x before_y = known before_x before_y (sym (moment-earlier p earlier x before_x) ∙ same ∙ moment-earlier p earlier y before_y)

      apart : (a b : Place) → IsIn earlier a → count_in earlier b.process ≤ b.at → moment (p ∷ earlier) a ≡ moment (p ∷ earlier) b → ⊥
      apart a b before past e =
          let here : moment (p ∷ earlier) a ≡ moment earlier a = moment-earlier p earlier a before in
          let less : moment earlier a < length earlier = moment-below earlier a before in
          let there : moment (p ∷ earlier) b ≡ length earlier = moment-newest p earlier b past in
          omega arith

-- the operations of a process stand in its order
pub moment-rises : (front : List ℕ) (p j k : ℕ) → j < k → IsIn front (place_of p k) → moment front (place_of p j) < moment front (place_of p k)
moment-rises [] p j k less inside = absurd (none_in (place_of p k) inside)
moment-rises (q ∷ earlier) p j k less inside = ⊎_elim (before (moment-rises earlier p j k less)) newest (cases_lt k (count_in earlier p)) where
  before : (IsIn earlier (place_of p k) → moment earlier (place_of p j) < moment earlier (place_of p k)) → IsIn earlier (place_of p k) → moment (q ∷ earlier) (place_of p j) < moment (q ∷ earlier) (place_of p k)
  before known in' =
      let later : moment (q ∷ earlier) (place_of p k) ≡ moment earlier (place_of p k) = moment-earlier q earlier (place_of p k) in' in
      let sooner : moment (q ∷ earlier) (place_of p j) ≡ moment earlier (place_of p j) = moment-earlier q earlier (place_of p j) (omega arith) in
      let known' : moment earlier (place_of p j) < moment earlier (place_of p k) = known in' in
      omega arith

  newest : count_in earlier p ≤ k → moment (q ∷ earlier) (place_of p j) < moment (q ∷ earlier) (place_of p k)
  newest past =
      let at : place_of p k ≡ place_of q (count_in earlier q) = is_newest q earlier (place_of p k) inside past in
      let process : p ≡ q = ap (λ (x : Place). x.process) at in
      let place : k ≡ count_in earlier q = ap (λ (x : Place). x.at) at in
      let same : count_in earlier p ≡ count_in earlier q = ap (count_in earlier) process in
      let in_j : IsIn earlier (place_of p j) = omega arith in
      let later : moment (q ∷ earlier) (place_of p k) ≡ length earlier = moment-newest q earlier (place_of p k) past in
      let sooner : moment (q ∷ earlier) (place_of p j) ≡ moment earlier (place_of p j) = moment-earlier q earlier (place_of p j) in_j in
      let below : moment earlier (place_of p j) < length earlier = moment-below earlier (place_of p j) in_j in
      omega arith
