-- What one more place of a front fixes, and lists of what cells hold.
use Rattle.std.proofs.Common.{ℕ, ◌≡◌, ◌≢◌, ◌+◌, ◌<◌, Bool, true, false, List, [], ◌∷◌, ◌++◌, length, map, filter_map, get_or, reverse, take, drop, Option, None, Some, MatchOption, is_none, All, slice_index, slice_index_or, slice_set, if◌then◌else◌, refl, sym, ap, ap₂, ◌∙◌, subst, ⊎_elim, arith}
use Rattle.std.specs.Option.{option_or, option_map, option_and_then}
use Rattle.std.specs.List.{range_with_len, cons_option, refill}
use Rattle.std.proofs.lemmas.Bool.{cases_eq}
use Rattle.std.proofs.lemmas.List.{length-set, get_or-set_same, get_or-set_other, map-id, take-append-le, take_all}
use Rattle.std.proofs.lemmas.List.FromFn.{length-map-range_with_len, get_or-map-range_with_len, fill_by_all, map-range_with_len_more, length-range_with_len, get_or-range_with_len}
use Rattle.std.proofs.lemmas.List.Elements.{filter_map-append, All-head, All-tail}
use Rattle.scm_sequences.specs.declared.op.Op.{Op}
use Rattle.scm_sequences.specs.Sequences.{cell_of, read_of, NamesCellsBelow, operation}
use Rattle.scm_sequences.specs.laws.SequenceLaws.{NamesCellsBelow-operation}
use Rattle.scm_sequences.specs.Traces.{Trace, count_in, following, value_before, IsLegal, fixed_value, fixed_values}
use Rattle.scm_sequences.specs.laws.FrontLaws.{IsLegal-operation}
use Rattle.scm_sequences.specs.laws.FixedLaws.{fixed_value-nil, fixed_value-more, fixed_value-open, read_of-other}
use Rattle.scm_frontier.specs.Situations.{Situated, situation_of}
use Rattle.scm_frontier.specs.laws.StepLaws.{next_operation-situation_of, value_in-situation_of}
use Rattle.scm_schedules.specs.Refuting.{open_read_of}
use Rattle.scm_schedules.proofs.FrontSteps.{EndsIn}
use Rattle.scm_schedules.proofs.WalkLaws.{Walked, legal_next, reverse-take_more}

-- what the front fixes for each cell
abbrev pub fixed_by : Trace → List ℕ → List (Option ℕ)
fixed_by t front = map (fixed_value t front) (range_with_len 0 (length t.initials))

-- ---- one more place

option_or-none : {X : Type 0} (o : Option X) → option_or o None ≡ o
option_or-none None = refl
option_or-none (Some x) = refl

-- the values that are fixed, where this is read of an open cell, or nothing is
abbrev pub FixedAfter : Trace → List ℕ → ℕ → Option (ℕ × ℕ) → Type 0
FixedAfter t front p read =
    MatchOption read (fixed_by t (p ∷ front) ≡ fixed_by t front)
    (λ item. (item.0 < length t.initials) × (fixed_by t (p ∷ front) ≡ slice_set (fixed_by t front) item.0 (Some item.1)))

-- the longer front ends in this operation
module _ (t : Trace) (front : List ℕ) (p : ℕ) (op : Op) (follows : following t front p ≡ Some op) where
  -- a cell stays as it was where nothing is read of it while it is open
  stays : (c : ℕ) → (if is_none (value_before t front c) then read_of op c else None) ≡ None → fixed_value t (p ∷ front) c ≡ fixed_value t front c
  stays c none = fixed_value-more t p front op c follows ∙ ap (option_or (fixed_value t front c)) none ∙ option_or-none (fixed_value t front c)

  stays_other : (c : ℕ) → cell_of op ≢ c → fixed_value t (p ∷ front) c ≡ fixed_value t front c
  stays_other c ne = stays c (by (is_none (value_before t front c)) (read_of op c) (read_of-other op c ne)) where
    by : (b : Bool) (read : Option ℕ) → read ≡ None → (if b then read else None) ≡ None
    by true read is = is
    by false read is = refl

  before_at : (c : ℕ) → c < length t.initials → get_or (fixed_by t front) c None ≡ fixed_value t front c
  before_at c h = get_or-map-range_with_len (fixed_value t front) 0 (length t.initials) c c None h (omega arith)

  same_after : (if is_none (value_before t front (cell_of op)) then read_of op (cell_of op) else None) ≡ None → fixed_by t (p ∷ front) ≡ fixed_by t front
  same_after none =
      sym (fill_by_all (fixed_value t (p ∷ front)) (fixed_by t front) (length t.initials) None (length-map-range_with_len (fixed_value t front) 0 (length t.initials))
      (λ c h. before_at c h ∙ sym (⊎_elim (λ same. stays c (subst (λ a. (if is_none (value_before t front a) then read_of op a else None) ≡ None) same none)) (stays_other c) (cases_eq (cell_of op) c))))

  set_after : (value : ℕ) → cell_of op < length t.initials → value_before t front (cell_of op) ≡ None → read_of op (cell_of op) ≡ Some value
      → fixed_by t (p ∷ front) ≡ slice_set (fixed_by t front) (cell_of op) (Some value)
  set_after value within is_open reads =
      sym (fill_by_all (fixed_value t (p ∷ front)) (slice_set (fixed_by t front) (cell_of op) (Some value)) (length t.initials) None
      (length-set (fixed_by t front) (cell_of op) (Some value) ∙ as_many) (λ c h. ⊎_elim at_cell (elsewhere c h) (cases_eq c (cell_of op)))) where
        as_many : length (fixed_by t front) ≡ length t.initials
        as_many = length-map-range_with_len (fixed_value t front) 0 (length t.initials)

        here : fixed_value t (p ∷ front) (cell_of op) ≡ Some value
        here =
            fixed_value-more t p front op (cell_of op) follows
            ∙ ap₂ (λ fixed before. option_or fixed (if is_none before then read_of op (cell_of op) else None)) (fixed_value-open t front (cell_of op) is_open) is_open ∙ reads

        at_cell : {c : ℕ} → c ≡ cell_of op → get_or (slice_set (fixed_by t front) (cell_of op) (Some value)) c None ≡ fixed_value t (p ∷ front) c
        at_cell {c} same =
            ap (λ a. get_or (slice_set (fixed_by t front) (cell_of op) (Some value)) a None) same
            ∙ get_or-set_same (fixed_by t front) (cell_of op) (Some value) None (omega (arith, within, as_many)) ∙ sym here ∙ ap (fixed_value t (p ∷ front)) (sym same)

        elsewhere : (c : ℕ) → c < length t.initials → c ≢ cell_of op → get_or (slice_set (fixed_by t front) (cell_of op) (Some value)) c None ≡ fixed_value t (p ∷ front) c
        elsewhere c h ne = get_or-set_other (fixed_by t front) (cell_of op) c (Some value) None ne ∙ before_at c h ∙ sym (stays_other c (λ same. ne (sym same)))

  after_operation : cell_of op < length t.initials
      → FixedAfter t front p (if is_none (value_before t front (cell_of op)) then option_map (λ value. (cell_of op, value)) (read_of op (cell_of op)) else None)
  after_operation within = by (value_before t front (cell_of op)) (read_of op (cell_of op)) refl refl where
    by : (before read : Option ℕ) → value_before t front (cell_of op) ≡ before → read_of op (cell_of op) ≡ read
        → FixedAfter t front p (if is_none before then option_map (λ value. (cell_of op, value)) read else None)
    by (Some v) read is reads = same_after (ap (λ o. if is_none o then read_of op (cell_of op) else None) is)
    by None None is reads = same_after (ap₂ (λ o r. if is_none o then r else None) is reads)
    by None (Some v) is reads = (within, set_after v within is reads)

-- what is read next of an open cell, where a front leads, tells what the longer front fixes
pub fixed_after : (t : Trace) (front : List ℕ) (p : ℕ) (s : Situated) → NamesCellsBelow (length t.initials) t.sequences → EndsIn t front s → IsLegal t (p ∷ front)
    → FixedAfter t front p (option_and_then (open_read_of s) (operation t.sequences p (slice_index s.counts p)))
fixed_after t front p s names before longer =
    subst (λ u. FixedAfter t front p (option_and_then (open_read_of u) (operation t.sequences p (slice_index u.counts p)))) before.ends (go (IsLegal-operation t p front longer)) where
      go : (op : Op) × (following t front p ≡ Some op)
          → FixedAfter t front p (option_and_then (open_read_of (situation_of t front)) (operation t.sequences p (slice_index (situation_of t front).counts p)))
      go found =
          let within : cell_of found.0 < length t.initials = NamesCellsBelow-operation (length t.initials) t.sequences p (count_in front p) found.0 names found.1 in
          let next : operation t.sequences p (slice_index (situation_of t front).counts p) ≡ Some found.0 = next_operation-situation_of t front p before.legal ∙ found.1 in
          subst (λ o. FixedAfter t front p (option_and_then (open_read_of (situation_of t front)) o)) (sym next)
          (subst (λ v. FixedAfter t front p (if is_none v then option_map (λ value. (cell_of found.0, value)) (read_of found.0 (cell_of found.0)) else None))
          (sym (value_in-situation_of t front (cell_of found.0) within)) (after_operation t front p found.0 found.1 within))

-- along a legal list of places
module _ (t : Trace) (places : List ℕ) (n : ℕ) (s : Situated) (names : NamesCellsBelow (length t.initials) t.sequences) (walked : Walked t places n s) (within : n < length places) (legal : IsLegal t (reverse places)) where
  next_fixed : FixedAfter t (reverse (take n places)) (get_or places n 0) (option_and_then (open_read_of s) (operation t.sequences (get_or places n 0) (slice_index s.counts (get_or places n 0))))
  next_fixed = fixed_after t (reverse (take n places)) (get_or places n 0) s names walked (legal_next t places n within legal)

  longer : fixed_by t (reverse (take (n + 1) places)) ≡ fixed_by t (get_or places n 0 ∷ reverse (take n places))
  longer = ap (fixed_by t) (reverse-take_more places n within)

  pub fixed_next-none : option_and_then (open_read_of s) (operation t.sequences (get_or places n 0) (slice_index s.counts (get_or places n 0))) ≡ None
      → fixed_by t (reverse (take (n + 1) places)) ≡ fixed_by t (reverse (take n places))
  fixed_next-none is = longer ∙ subst (FixedAfter t (reverse (take n places)) (get_or places n 0)) is next_fixed

  pub fixed_next-some : (cell value : ℕ) → option_and_then (open_read_of s) (operation t.sequences (get_or places n 0) (slice_index s.counts (get_or places n 0))) ≡ Some (cell, value)
      → (cell < length t.initials) × (fixed_by t (reverse (take (n + 1) places)) ≡ slice_set (fixed_by t (reverse (take n places))) cell (Some value))
  fixed_next-some cell value is =
      let after : FixedAfter t (reverse (take n places)) (get_or places n 0) (Some (cell, value)) = subst (FixedAfter t (reverse (take n places)) (get_or places n 0)) is next_fixed in
      (after.0, longer ∙ after.1)

-- at the start nothing is fixed
pub fixed_by-start : (t : Trace) (values : List (Option ℕ)) → length values ≡ length t.initials → ((c : ℕ) → c < length t.initials → get_or values c None ≡ None) → values ≡ fixed_by t []
fixed_by-start t values as_many none = fill_by_all (fixed_value t []) values (length t.initials) None as_many (λ c h. none c h ∙ sym (fixed_value-nil t c))

-- values that were written back after one was set
pub refill_set : (values written : List (Option ℕ)) (i : ℕ) (value : Option ℕ) → written ≡ values → refill (length values) values (slice_set written i value) ≡ slice_set values i value
refill_set values written i value same =
    ap (λ list. refill (length values) values (slice_set list i value)) same
    ∙ take-append-le (length values) (slice_set values i value) (drop (length (slice_set values i value)) values) (omega (arith, length-set values i value))
    ∙ take_all (length values) (slice_set values i value) (omega (arith, length-set values i value))

-- ---- the list of the values

-- the cells below n that have a value, each with that value
abbrev pub listed_to : List (Option ℕ) → ℕ → List (ℕ × ℕ)
listed_to values n = filter_map (λ c. option_map (λ value. (c, value)) (slice_index_or values c None)) (range_with_len 0 n)

range_more : (n : ℕ) → range_with_len 0 (n + 1) ≡ range_with_len 0 n ++ n ∷ []
range_more n = sym (map-id (range_with_len 0 (n + 1))) ∙ map-range_with_len_more (λ k. k) 0 n n (omega arith) ∙ ap (λ cells. cells ++ n ∷ []) (map-id (range_with_len 0 n))

listed_more : (values : List (Option ℕ)) (n : ℕ) → listed_to values (n + 1) ≡ listed_to values n ++ cons_option (option_map (λ value. (n, value)) (slice_index_or values n None)) []
listed_more values n =
    ap (filter_map (λ c. option_map (λ value. (c, value)) (slice_index_or values c None))) (range_more n)
    ∙ filter_map-append (λ c. option_map (λ value. (c, value)) (slice_index_or values c None)) (range_with_len 0 n) (n ∷ [])

pub listed_some : (values : List (Option ℕ)) (n value : ℕ) (list : List (ℕ × ℕ)) → list ≡ listed_to values n → slice_index_or values n None ≡ Some value → list ++ (n, value) ∷ [] ≡ listed_to values (n + 1)
listed_some values n value list is here =
    ap (λ before. before ++ (n, value) ∷ []) is ∙ ap (λ o. listed_to values n ++ cons_option (option_map (λ v. (n, v)) o) []) (sym here) ∙ sym (listed_more values n)

append-nil : {X : Type 0} (xs : List X) → xs ++ [] ≡ xs
append-nil [] = refl
append-nil (x ∷ xs) = ap (λ rest. x ∷ rest) (append-nil xs)

pub listed_none : (values : List (Option ℕ)) (n : ℕ) (list : List (ℕ × ℕ)) → list ≡ listed_to values n → slice_index_or values n None ≡ None → list ≡ listed_to values (n + 1)
listed_none values n list is none =
    is ∙ sym (append-nil (listed_to values n)) ∙ ap (λ o. listed_to values n ++ cons_option (option_map (λ v. (n, v)) o) []) (sym none) ∙ sym (listed_more values n)

filter_map-same : {X Y : Type 0} (f g : X → Option Y) (xs : List X) → All (λ x. f x ≡ g x) xs → filter_map f xs ≡ filter_map g xs
filter_map-same f g [] all = refl
filter_map-same f g (x ∷ xs) all = ap₂ cons_option (All-head (λ x. f x ≡ g x) x xs all) (filter_map-same f g xs (All-tail (λ x. f x ≡ g x) x xs all))

pub listed-fixed_by : (t : Trace) (front : List ℕ) (n : ℕ) → n ≡ length t.initials → listed_to (fixed_by t front) n ≡ fixed_values t front
listed-fixed_by t front n is =
    ap (listed_to (fixed_by t front)) is
    ∙ filter_map-same (λ c. option_map {U = ℕ × ℕ} (λ value. (c, value)) (slice_index_or (fixed_by t front) c None)) (λ c. option_map {U = ℕ × ℕ} (λ value. (c, value)) (fixed_value t front c)) (range_with_len 0 (length t.initials))
    (λ k d h.
    let within : k < length t.initials = subst (λ m. k < m) (length-range_with_len 0 (length t.initials)) h in
    let here : get_or (range_with_len 0 (length t.initials)) k d ≡ k = get_or-range_with_len 0 (length t.initials) k d within ∙ omega arith in
    subst (λ c. option_map {U = ℕ × ℕ} (λ value. (c, value)) (slice_index_or (fixed_by t front) c None) ≡ option_map {U = ℕ × ℕ} (λ value. (c, value)) (fixed_value t front c)) (sym here)
    (ap (option_map {U = ℕ × ℕ} (λ value. (k, value))) (get_or-map-range_with_len (fixed_value t front) 0 (length t.initials) k k None within (omega arith))))
