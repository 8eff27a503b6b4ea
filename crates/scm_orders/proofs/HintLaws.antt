-- Hints, one after the other and in two parts.
use Rattle.std.proofs.Common.{ℕ, ◌≡◌, ◌+◌, ◌-◌, ◌<◌, ◌≤◌, ◌⊎◌, ◌↔◌, min, List, length, take, drop, Option, None, Some, IsSomeAnd, option_and_then, slice_index_or, sym, ap, ◌∙◌, subst, ⊎_elim, inl, inr, arith}
use Rattle.std.specs.List.{Any}
use Rattle.std.proofs.lemmas.Bool.{cases_lt}
use Rattle.std.proofs.lemmas.List.{drop_more, drop_all, length-take, length-drop, get_or-take, get_or-drop, take_rest}
use Rattle.scm_orders.specs.declared.place.Place.{Place}
use Rattle.scm_orders.specs.declared.derivation.Line.{Line}
use Rattle.scm_orders.specs.Facts.{IsUpTo, order_of, fact_at, Leads}

-- ---- one after the other

-- what the hints from i on lead to, where hint i says this order
abbrev FirstLeads : List Line → List ℕ → ℕ → Option (Place × Place) → Place → Place → Type 0
FirstLeads earlier hints i order from to = IsSomeAnd order (λ o. IsUpTo from o.0 × Leads earlier (drop (i + 1) hints) o.1 to)

leads_at : (earlier : List Line) (hints : List ℕ) (i : ℕ) (from to : Place) (order : Option (Place × Place)) (Q : Type 0) → i < length hints
    → option_and_then order_of (fact_at earlier (slice_index_or hints i 0)) ≡ order → FirstLeads earlier hints i order from to ↔ Q → Leads earlier (drop i hints) from to ↔ Q
leads_at earlier hints i from to order Q inside is both =
    subst (λ xs. Leads earlier xs from to ↔ Q) (sym (drop_more hints i 0 inside)) (subst (λ o. FirstLeads earlier hints i o from to ↔ Q) (sym is) both)

pub leads_on : (earlier : List Line) (hints : List ℕ) (i : ℕ) (from next after to : Place) → i < length hints
    → option_and_then order_of (fact_at earlier (slice_index_or hints i 0)) ≡ Some (next, after) → IsUpTo from next → Leads earlier (drop i hints) from to ↔ Leads earlier (drop (i + 1) hints) after to
leads_on earlier hints i from next after to inside is up =
    leads_at earlier hints i from to (Some (next, after)) (Leads earlier (drop (i + 1) hints) after to) inside is ((λ both. both.1), (λ rest. (up, rest)))

pub leads_none : (earlier : List Line) (hints : List ℕ) (i : ℕ) (from to : Place) → i < length hints → option_and_then order_of (fact_at earlier (slice_index_or hints i 0)) ≡ None → Leads earlier (drop i hints) from to → ⊥
leads_none earlier hints i from to inside is = (leads_at earlier hints i from to None ⊥ inside is ((λ f. f), (λ f. f))).0

pub leads_past : (earlier : List Line) (hints : List ℕ) (i : ℕ) (from next after to : Place) → i < length hints
    → option_and_then order_of (fact_at earlier (slice_index_or hints i 0)) ≡ Some (next, after) → (IsUpTo from next → ⊥) → Leads earlier (drop i hints) from to → ⊥
leads_past earlier hints i from next after to inside is past =
    (leads_at earlier hints i from to (Some (next, after)) ⊥ inside is ((λ both. past both.0), (λ f. absurd f))).0

pub leads_end : (earlier : List Line) (hints : List ℕ) (i : ℕ) (from to : Place) → length hints ≤ i → Leads earlier (drop i hints) from to ↔ IsUpTo from to
leads_end earlier hints i from to past = subst (λ xs. Leads earlier xs from to ↔ IsUpTo from to) (sym (drop_all i hints past)) ((λ up. up), (λ up. up))

-- ---- in two parts

pub any_taken : (P : ℕ → Type 0) (n : ℕ) (xs : List ℕ) → Any P (take n xs) → Any P xs
any_taken P n xs some =
    let short : length (take n xs) ≡ min n (length xs) = length-take n xs in
    let below : some.0 < length (take n xs) = some.2 in
    (some.0, some.1, omega arith, sym (get_or-take n xs some.0 some.1 (omega arith)) ∙ some.3, some.4)

pub any_dropped : (P : ℕ → Type 0) (n : ℕ) (xs : List ℕ) → Any P (drop n xs) → Any P xs
any_dropped P n xs some =
    let short : length (drop n xs) ≡ length xs - n = length-drop n xs in
    let below : some.0 < length (drop n xs) = some.2 in
    (n + some.0, some.1, omega arith, sym (get_or-drop n xs some.0 some.1) ∙ some.3, some.4)

pub any_parted : (P : ℕ → Type 0) (n : ℕ) (xs : List ℕ) → Any P xs → Any P (take (length xs - n) (drop n xs)) ⊎ Any P (take n xs)
any_parted P n xs some = ⊎_elim
    (λ sooner. inr (let short : length (take n xs) ≡ min n (length xs) = length-take n xs in let inside : some.0 < length xs = some.2 in
    (some.0, some.1, omega arith, get_or-take n xs some.0 some.1 sooner ∙ some.3, some.4)))
    (λ later. inl (let short : length (drop n xs) ≡ length xs - n = length-drop n xs in let inside : some.0 < length xs = some.2 in
    let sum : n + (some.0 - n) ≡ some.0 = omega arith in
    subst (Any P) (sym (take_rest xs n)) (some.0 - n, some.1, omega arith, get_or-drop n xs (some.0 - n) some.1 ∙ ap (λ k. slice_index_or xs k some.1) sum ∙ some.3, some.4)))
    (cases_lt some.0 n)
