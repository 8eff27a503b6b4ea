-- The laws of a walk forward along a list of places, which stands oldest first.
use Rattle.std.proofs.Common.{ℕ, ◌≡◌, ◌+◌, ◌<◌, ◌≤◌, ◌↔◌, Bool, true, false, List, [], ◌∷◌, length, take, drop, get_or, reverse, None, Some, IsTrue, MatchBool, slice_index, ◌==◌, subst, sym, ap, ◌∙◌, arith}
use Rattle.std.specs.List.{range_with_len, list_all}
use Rattle.std.proofs.lemmas.Bool.{false≢true, eq-eqb, eqb-true}
use Rattle.std.proofs.lemmas.List.{take-append-drop, take_more, take_all, reverse-append, ext_get_or}
use Rattle.std.proofs.lemmas.List.FromFn.{length-range_with_len, get_or-range_with_len}
use Rattle.std.proofs.lemmas.List.Sums.{AllPass-from_list_all, list_all-from_AllPass}
use Rattle.scm_sequences.specs.Sequences.{NamesCellsBelow, lengths_of}
use Rattle.scm_sequences.specs.Traces.{Trace, IsLegal, IsSchedule}
use Rattle.scm_sequences.specs.laws.FrontLaws.{IsLegal-start, IsLegal-suffix}
use Rattle.scm_frontier.specs.Situations.{Situated, situation_of, start_of}
use Rattle.scm_frontier.specs.laws.StepLaws.{situation_of-start, counts-situation_of}
use Rattle.scm_schedules.specs.Refuting.{step_by}
use Rattle.scm_schedules.proofs.FrontSteps.{EndsIn, step_by-some, step_by-none}

-- the first n places are a legal front that leads to the situation
abbrev pub Walked : Trace → List ℕ → ℕ → Situated → Type 0
Walked t places n s = EndsIn t (reverse (take n places)) s

pub reverse-take_more : (places : List ℕ) (n : ℕ) → n < length places → reverse (take (n + 1) places) ≡ get_or places n 0 ∷ reverse (take n places)
reverse-take_more places n h = ap reverse (take_more places n 0 h) ∙ reverse-append (take n places) (get_or places n 0 ∷ [])

-- the first places of a legal list are legal
pub legal_prefix : (t : Trace) (places : List ℕ) (n : ℕ) → IsLegal t (reverse places) → IsLegal t (reverse (take n places))
legal_prefix t places n legal =
    IsLegal-suffix t (reverse (drop n places)) (reverse (take n places))
    (subst (IsLegal t) (ap reverse (sym (take-append-drop n places)) ∙ reverse-append (take n places) (drop n places)) legal)

pub Walked-start : (t : Trace) (places : List ℕ) → Walked t places 0 (start_of t.initials (length t.sequences))
Walked-start t places = record { legal = IsLegal-start t; ends = situation_of-start t }

pub Walked-step : (t : Trace) (places : List ℕ) (n : ℕ) (s after : Situated) → NamesCellsBelow (length t.initials) t.sequences → Walked t places n s → n < length places
    → step_by t.sequences s (get_or places n 0) ≡ Some after → Walked t places (n + 1) after
Walked-step t places n s after names walked h e =
    subst (λ front. EndsIn t front after) (sym (reverse-take_more places n h)) (step_by-some t (reverse (take n places)) (get_or places n 0) s after names walked e)

-- along a legal list the next place is legal too
pub legal_next : (t : Trace) (places : List ℕ) (n : ℕ) → n < length places → IsLegal t (reverse places) → IsLegal t (get_or places n 0 ∷ reverse (take n places))
legal_next t places n h legal = subst (IsLegal t) (reverse-take_more places n h) (legal_prefix t places (n + 1) legal)

-- so no step along it fails
pub Walked-next : (t : Trace) (places : List ℕ) (n : ℕ) (s after : Situated) (result : Bool) → NamesCellsBelow (length t.initials) t.sequences → Walked t places n s → n < length places → IsLegal t (reverse places)
    → MatchBool result (step_by t.sequences s (get_or places n 0) ≡ Some after) (step_by t.sequences s (get_or places n 0) ≡ None) → Walked t places (n + 1) after
Walked-next t places n s after true names walked h legal stepped = Walked-step t places n s after names walked h stepped
Walked-next t places n s after false names walked h legal stepped = absurd (step_by-none t (reverse (take n places)) (get_or places n 0) s names walked stepped (legal_next t places n h legal))

-- where a step is not legal, no longer list is a schedule
pub Walked-stop : (t : Trace) (places : List ℕ) (n : ℕ) (s : Situated) → NamesCellsBelow (length t.initials) t.sequences → Walked t places n s → n < length places
    → step_by t.sequences s (get_or places n 0) ≡ None → IsTrue false ↔ IsSchedule t (reverse places)
Walked-stop t places n s names walked h e = (
  λ yes. absurd (false≢true yes),
  λ schedule. absurd (step_by-none t (reverse (take n places)) (get_or places n 0) s names walked e (legal_next t places n h schedule.legal)),
)

-- at the end the counts decide
pub Walked-end : (t : Trace) (places : List ℕ) (n : ℕ) (s : Situated) (result : Bool) → Walked t places n s → length places ≤ n
    → IsTrue result ↔ (s.counts ≡ lengths_of t.sequences) → IsTrue result ↔ IsSchedule t (reverse places)
Walked-end t places n s result walked h decides =
    let whole : EndsIn t (reverse places) s = subst (λ list. EndsIn t (reverse list) s) (take_all n places h) walked in
    let counts : (situation_of t (reverse places)).counts ≡ s.counts = ap (λ (u : Situated). u.counts) whole.ends in (
      λ yes. record { legal = whole.legal; whole = sym (counts-situation_of t (reverse places)) ∙ counts ∙ decides.0 yes },
      λ schedule. decides.1 (sym counts ∙ counts-situation_of t (reverse places) ∙ schedule.whole),
    )

-- counts are the same where they are at each process
pub same_counts : (counts lengths : List ℕ) → length counts ≡ length lengths
    → (list_all (λ p. slice_index counts p == slice_index lengths p) (range_with_len 0 (length lengths)) ≡ true) ↔ (counts ≡ lengths)
same_counts counts lengths as_many = (λ all. ext_get_or 0 counts lengths as_many (at all), λ same. list_all-from_AllPass test procs (λ k d h. eq-eqb (slice_index counts (get_or procs k d)) (slice_index lengths (get_or procs k d)) (ap (λ (ns : List ℕ). slice_index ns (get_or procs k d)) same))) where
  test : ℕ → Bool
  test p = slice_index counts p == slice_index lengths p

  procs : List ℕ
  procs = range_with_len 0 (length lengths)

  at : list_all test procs ≡ true → (p : ℕ) → p < length counts → slice_index counts p ≡ slice_index lengths p
  at all p h =
      let in_procs : p < length lengths = omega (arith, as_many) in
      let passes : test (get_or procs p 0) ≡ true = AllPass-from_list_all test procs all p 0 (subst (λ n. p < n) (sym (length-range_with_len 0 (length lengths))) in_procs) in
      let here : get_or procs p 0 ≡ p = get_or-range_with_len 0 (length lengths) p 0 in_procs ∙ omega arith in
      eqb-true (slice_index counts p) (slice_index lengths p) (subst (λ q. test q ≡ true) here passes)
