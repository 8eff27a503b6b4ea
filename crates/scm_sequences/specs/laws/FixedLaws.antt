-- The laws of unset cells: how a front fixes values place by place, and that the values that it fixes are just those
-- under which it stays legal.
use Rattle.std.proofs.Common.{ℕ, ◌≡◌, ◌≢◌, ◌<◌, ◌≤◌, ◌^◌, ◌↔◌, Bool, true, false, List, [], ◌∷◌, length, filter_map, Option, None, Some, is_none, IfSome, IsTrue, All, get_or, if◌then◌else◌, refl, sym, ap, ap₂, ◌∙◌, subst, ⊎_elim, arith}
use Rattle.std.specs.Option.{option_or, option_map, option_and_then, unwrap_or}
use Rattle.std.specs.List.{range_with_len, cons_option}
use Rattle.std.proofs.lemmas.Bool.{cases_eq, cases_lt, eq-eqb, ne_eqb, eqb-true}
use Rattle.std.proofs.lemmas.List.{get_or_past}
use Rattle.std.proofs.lemmas.Nat.{pow_pos}
use Rattle.std.proofs.lemmas.List.FromFn.{length-range_with_len, get_or-range_with_len, length-map-range_with_len, get_or-map-range_with_len}
use Rattle.std.proofs.lemmas.List.Elements.{All-nil, All-cons, All-head, All-tail}
use Rattle.scm_sequences.specs.declared.op.Op.{Op}
use Rattle.scm_sequences.specs.declared.op.Op.TheVariants.{R, W, Rw}
use Rattle.scm_sequences.specs.Sequences.{cell_of, read_of, written_to, finds}
use Rattle.scm_sequences.specs.Traces.{Trace, trace_of, initial_of, count_in, following, last_written, first_read, value_before, IsLegal, IsConsistent, unwritten_read, fixed_value, fixed_values, given, Agrees, ReadsFit, ChosenFit}
use Rattle.scm_sequences.specs.laws.FrontLaws.{last_written-nil, last_written-step, first_read-nil, first_read-step, value_before-is, IsLegal-start, IsLegal-step, IsLegal-earlier, IsLegal-operation, IsLegal-finds, finds-same}

-- ---- place by place

pub unwritten_read-nil : (t : Trace) (c : ℕ) → unwritten_read t [] c ≡ None
unfolding unwritten_read
unwritten_read-nil t c = refl

pub unwritten_read-step : (t : Trace) (p : ℕ) (earlier : List ℕ) (c : ℕ) → unwritten_read t (p ∷ earlier) c
    ≡ option_or (unwritten_read t earlier c) (if is_none (last_written t earlier c) then option_and_then (λ op. read_of op c) (following t earlier p) else None)
unfolding unwritten_read
unwritten_read-step t p earlier c = refl

-- where nothing wrote the cell, that is what was read first of it
unwritten_read-first : (t : Trace) (front : List ℕ) (c : ℕ) → last_written t front c ≡ None → unwritten_read t front c ≡ first_read t front c
unwritten_read-first t [] c none = unwritten_read-nil t c ∙ sym (first_read-nil t c)
unwritten_read-first t (p ∷ earlier) c none =
    unwritten_read-step t p earlier c
    ∙ ap₂ option_or (unwritten_read-first t earlier c before) (ap (λ o. if is_none o then option_and_then (λ op. read_of op c) (following t earlier p) else None) before)
    ∙ sym (first_read-step t p earlier c) where
      rest : (written last : Option ℕ) → option_or written last ≡ None → last ≡ None
      rest None last is = is
      rest (Some w) last is = cc

      before : last_written t earlier c ≡ None
      before = rest (option_and_then (λ op. written_to op c) (following t earlier p)) (last_written t earlier c) (sym (last_written-step t p earlier c) ∙ none)

pub fixed_value-nil : (t : Trace) (c : ℕ) → fixed_value t [] c ≡ None
fixed_value-nil t c = by (is_none (initial_of t c)) (unwritten_read t [] c) (unwritten_read-nil t c) where
  by : (is_unset : Bool) (fixed : Option ℕ) → fixed ≡ None → (if is_unset then fixed else None) ≡ None
  by true fixed is = is
  by false fixed is = refl

-- a place fixes what it reads of a cell that is open before it
pub fixed_value-step : (t : Trace) (p : ℕ) (earlier : List ℕ) (c : ℕ) → fixed_value t (p ∷ earlier) c
    ≡ option_or (fixed_value t earlier c) (if is_none (value_before t earlier c) then option_and_then (λ op. read_of op c) (following t earlier p) else None)
fixed_value-step t p earlier c =
    ap (λ o. if is_none (initial_of t c) then o else None) (unwritten_read-step t p earlier c)
    ∙ by (last_written t earlier c) (initial_of t c) (first_read t earlier c) (unwritten_read t earlier c) (option_and_then (λ op. read_of op c) (following t earlier p)) (unwritten_read-first t earlier c)
    ∙ ap (λ o. option_or (fixed_value t earlier c) (if is_none o then option_and_then (λ op. read_of op c) (following t earlier p) else None)) (sym (value_before-is t earlier c)) where
      by : (last initial first fixed read : Option ℕ) → (last ≡ None → fixed ≡ first)
          → (if is_none initial then option_or fixed (if is_none last then read else None) else None)
          ≡ option_or (if is_none initial then fixed else None) (if is_none (option_or last (option_or initial first)) then read else None)
      by None (Some i) first fixed read same = refl
      by (Some w) (Some i) first fixed read same = refl
      by (Some w) None first fixed read same = refl
      by None None None fixed read same = refl
      by None None (Some f) fixed read same = rw (same refl) refl

-- what an operation adds to that
pub fixed_value-more : (t : Trace) (p : ℕ) (earlier : List ℕ) (op : Op) (c : ℕ) → following t earlier p ≡ Some op
    → fixed_value t (p ∷ earlier) c ≡ option_or (fixed_value t earlier c) (if is_none (value_before t earlier c) then read_of op c else None)
fixed_value-more t p earlier op c e =
    fixed_value-step t p earlier c
    ∙ ap (λ o. option_or (fixed_value t earlier c) (if is_none (value_before t earlier c) then option_and_then (λ op. read_of op c) o else None)) e

-- an operation reads its own cell alone
pub read_of-other : (op : Op) (c : ℕ) → cell_of op ≢ c → read_of op c ≡ None
read_of-other (W a d) c ne = refl
read_of-other (R a d) c ne = ap (λ b. if b then Some d else None) (ne_eqb a c ne)
read_of-other (Rw a d e) c ne = ap (λ b. if b then Some d else None) (ne_eqb a c ne)

-- what is open was not fixed
pub fixed_value-open : (t : Trace) (front : List ℕ) (c : ℕ) → value_before t front c ≡ None → fixed_value t front c ≡ None
fixed_value-open t front c is_open =
    by (last_written t front c) (initial_of t c) (first_read t front c) (unwritten_read t front c) (unwritten_read-first t front c) (sym (value_before-is t front c) ∙ is_open) where
      by : (last initial first fixed : Option ℕ) → (last ≡ None → fixed ≡ first) → option_or last (option_or initial first) ≡ None → (if is_none initial then fixed else None) ≡ None
      by (Some w) initial first fixed same is = cc
      by None (Some i) first fixed same is = cc
      by None None first fixed same is = same refl ∙ is

-- ---- a value given to each unset cell

-- what was written and read doesn't depend on first contents
last_written-sequences : (t u : Trace) (front : List ℕ) (c : ℕ) → t.sequences ≡ u.sequences → last_written t front c ≡ last_written u front c
last_written-sequences t u [] c same = last_written-nil t c ∙ sym (last_written-nil u c)
last_written-sequences t u (p ∷ earlier) c same =
    last_written-step t p earlier c
    ∙ ap₂ (λ o before. option_or (option_and_then (λ op. written_to op c) o) before) (ap (λ s. following (trace_of [] s) earlier p) same) (last_written-sequences t u earlier c same)
    ∙ sym (last_written-step u p earlier c)

first_read-sequences : (t u : Trace) (front : List ℕ) (c : ℕ) → t.sequences ≡ u.sequences → first_read t front c ≡ first_read u front c
first_read-sequences t u [] c same = first_read-nil t c ∙ sym (first_read-nil u c)
first_read-sequences t u (p ∷ earlier) c same =
    first_read-step t p earlier c
    ∙ ap₂ (λ o before. option_or before (option_and_then (λ op. read_of op c) o)) (ap (λ s. following (trace_of [] s) earlier p) same) (first_read-sequences t u earlier c same)
    ∙ sym (first_read-step u p earlier c)

-- for a cell the front either fixes no value, or the chosen one
abbrev IsKept : Trace → (ℕ → ℕ) → List ℕ → ℕ → Type 0
IsKept t chosen front c = IfSome (fixed_value t front c) (λ value. chosen c ≡ value)

module _ (t : Trace) (chosen : ℕ → ℕ) where
  initial_of-given : (c : ℕ) → c < length t.initials → initial_of (given t chosen) c ≡ Some (unwrap_or (initial_of t c) (chosen c))
  initial_of-given c h = get_or-map-range_with_len (λ c. Some (unwrap_or (initial_of t c) (chosen c))) 0 (length t.initials) c c None h (omega arith)

  initial_of-given_past : (c : ℕ) → length t.initials ≤ c → initial_of (given t chosen) c ≡ initial_of t c
  initial_of-given_past c past =
      get_or_past (given t chosen).initials c None (omega (arith, length-map-range_with_len (λ c. Some (unwrap_or (initial_of t c) (chosen c))) 0 (length t.initials)))
      ∙ sym (get_or_past t.initials c None past)

  parts-given : (front : List ℕ) (c : ℕ) → value_before (given t chosen) front c ≡ option_or (last_written t front c) (option_or (initial_of (given t chosen) c) (first_read t front c))
  parts-given front c =
      value_before-is (given t chosen) front c
      ∙ ap₂ (λ last first. option_or last (option_or (initial_of (given t chosen) c) first)) (last_written-sequences (given t chosen) t front c refl) (first_read-sequences (given t chosen) t front c refl)

  value_before-given_past : (front : List ℕ) (c : ℕ) → length t.initials ≤ c → value_before (given t chosen) front c ≡ value_before t front c
  value_before-given_past front c past =
      parts-given front c ∙ ap (λ initial. option_or (last_written t front c) (option_or initial (first_read t front c))) (initial_of-given_past c past) ∙ sym (value_before-is t front c)

  -- a cell holds what it held, and the chosen value where it was open
  value_before-given : (front : List ℕ) (c : ℕ) → c < length t.initials → IsKept t chosen front c → value_before (given t chosen) front c ≡ Some (unwrap_or (value_before t front c) (chosen c))
  value_before-given front c h kept =
      parts-given front c ∙ ap (λ initial. option_or (last_written t front c) (option_or initial (first_read t front c))) (initial_of-given c h)
      ∙ by (last_written t front c) (initial_of t c) (first_read t front c) (unwritten_read t front c) (unwritten_read-first t front c) kept
      ∙ ap (λ o. Some (unwrap_or o (chosen c))) (sym (value_before-is t front c)) where
        by : (last initial first fixed : Option ℕ) → (last ≡ None → fixed ≡ first) → IfSome (if is_none initial then fixed else None) (λ value. chosen c ≡ value)
            → option_or last (Some (unwrap_or initial (chosen c))) ≡ Some (unwrap_or (option_or last (option_or initial first)) (chosen c))
        by (Some w) initial first fixed same kept = refl
        by None (Some i) first fixed same kept = refl
        by None None None fixed same kept = refl
        by None None (Some f) fixed same kept = ap Some (subst (λ o. IfSome o (λ value. chosen c ≡ value)) (same refl) kept)

  -- ---- a longer front

  -- what is kept of a longer front was kept of it before
  kept_earlier : (p : ℕ) (earlier : List ℕ) (c : ℕ) → IsKept t chosen (p ∷ earlier) c → IsKept t chosen earlier c
  kept_earlier p earlier c kept =
      by (fixed_value t earlier c) (if is_none (value_before t earlier c) then option_and_then (λ op. read_of op c) (following t earlier p) else None) (subst (λ o. IfSome o (λ value. chosen c ≡ value)) (fixed_value-step t p earlier c) kept) where
        by : (before more : Option ℕ) → IfSome (option_or before more) (λ value. chosen c ≡ value) → IfSome before (λ value. chosen c ≡ value)
        by None more kept = tt
        by (Some v) more kept = kept

  -- an operation that finds what it reads where the values are given finds it where the cell is open, and reads the chosen one there
  finds_given : (op : Op) (value : Option ℕ) → IsTrue (finds op (λ _. Some (unwrap_or value (chosen (cell_of op))))) → IsTrue (finds op (λ _. value))
  finds_given (W c d) value found = refl
  finds_given (R c d) None found = refl
  finds_given (R c d) (Some v) found = found
  finds_given (Rw c d e) None found = refl
  finds_given (Rw c d e) (Some v) found = found

  read_chosen : (op : Op) (c : ℕ) → cell_of op ≡ c → IsTrue (finds op (λ _. Some (chosen c))) → IfSome (read_of op c) (λ value. chosen c ≡ value)
  read_chosen (W a d) c same found = tt
  read_chosen (R a d) c same found = subst (λ (b : Bool). IfSome (if b then Some d else None) (λ value. chosen c ≡ value)) (sym (eq-eqb a c same)) (eqb-true (chosen c) d found)
  read_chosen (Rw a d e) c same found = subst (λ (b : Bool). IfSome (if b then Some d else None) (λ value. chosen c ≡ value)) (sym (eq-eqb a c same)) (eqb-true (chosen c) d found)

  -- and the other way round
  found_given : (op : Op) (value : Option ℕ) → IsTrue (finds op (λ _. value)) → (value ≡ None → IfSome (read_of op (cell_of op)) (λ read. chosen (cell_of op) ≡ read)) → IsTrue (finds op (λ _. Some (unwrap_or value (chosen (cell_of op)))))
  found_given (W c d) value found reads = refl
  found_given (R c d) (Some v) found reads = found
  found_given (R c d) None found reads = eq-eqb (chosen c) d (subst (λ (b : Bool). IfSome (if b then Some d else None) (λ read. chosen c ≡ read)) (eq-eqb c c refl) (reads refl))
  found_given (Rw c d e) (Some v) found reads = found
  found_given (Rw c d e) None found reads = eq-eqb (chosen c) d (subst (λ (b : Bool). IfSome (if b then Some d else None) (λ read. chosen c ≡ read)) (eq-eqb c c refl) (reads refl))

  -- ---- the law, cell by cell

  -- a front that is legal where the values are given is legal, and fixes the chosen values
  pub legal_from_given : (front : List ℕ) → IsLegal (given t chosen) front → IsLegal t front × ((c : ℕ) → c < length t.initials → IsKept t chosen front c)
  legal_from_given [] legal = (IsLegal-start t, λ c h. subst (λ o. IfSome o (λ value. chosen c ≡ value)) (sym (fixed_value-nil t c)) tt)
  legal_from_given (p ∷ earlier) legal = go (legal_from_given earlier (IsLegal-earlier (given t chosen) p earlier legal)) (IsLegal-operation (given t chosen) p earlier legal) where
    go : IsLegal t earlier × ((c : ℕ) → c < length t.initials → IsKept t chosen earlier c) → (op : Op) × (following t earlier p ≡ Some op)
        → IsLegal t (p ∷ earlier) × ((c : ℕ) → c < length t.initials → IsKept t chosen (p ∷ earlier) c)
    go before next = (IsLegal-step t p earlier op before.0 next.1 (⊎_elim within past (cases_lt a (length t.initials))), kept) where
      op : Op
      op = next.0

      a : ℕ
      a = cell_of op

      found : IsTrue (finds op (value_before (given t chosen) earlier))
      found = IsLegal-finds (given t chosen) p earlier op legal next.1

      at : (value : Option ℕ) → value_before (given t chosen) earlier a ≡ value → IsTrue (finds op (λ _. value))
      at value is = sym (finds-same op (value_before (given t chosen) earlier) (λ _. value) is) ∙ found

      within : a < length t.initials → IsTrue (finds op (value_before t earlier))
      within h = finds-same op (value_before t earlier) (λ _. value_before t earlier a) refl ∙ finds_given op (value_before t earlier a) (at _ (value_before-given earlier a h (before.1 a h)))

      past : length t.initials ≤ a → IsTrue (finds op (value_before t earlier))
      past h = sym (finds-same op (value_before (given t chosen) earlier) (value_before t earlier) (value_before-given_past earlier a h)) ∙ found

      kept : (c : ℕ) → c < length t.initials → IsKept t chosen (p ∷ earlier) c
      kept c h = subst (λ o. IfSome o (λ value. chosen c ≡ value)) (sym (fixed_value-more t p earlier op c next.1)) (by (value_before t earlier c) refl (fixed_value t earlier c) (before.1 c h) (fixed_value-open t earlier c)) where
        reads : value_before t earlier c ≡ None → IfSome (read_of op c) (λ value. chosen c ≡ value)
        reads is_open = ⊎_elim here other (cases_eq a c) where
          here : a ≡ c → IfSome (read_of op c) (λ value. chosen c ≡ value)
          here same = read_chosen op c same (at (Some (chosen c)) (ap (value_before (given t chosen) earlier) same ∙ value_before-given earlier c h (before.1 c h) ∙ ap (λ o. Some (unwrap_or o (chosen c))) is_open))

          other : a ≢ c → IfSome (read_of op c) (λ value. chosen c ≡ value)
          other ne = subst (λ o. IfSome o (λ value. chosen c ≡ value)) (sym (read_of-other op c ne)) tt

        by : (value : Option ℕ) → value_before t earlier c ≡ value → (fixed : Option ℕ) → IfSome fixed (λ value. chosen c ≡ value) → (value_before t earlier c ≡ None → fixed ≡ None)
            → IfSome (option_or fixed (if is_none value then read_of op c else None)) (λ value. chosen c ≡ value)
        by value is (Some f) kept is_open = kept
        by (Some v) is None kept is_open = tt
        by None is None kept is_open = reads is

  -- and a legal front that fixes the chosen values is legal where the values are given
  pub legal_given : (front : List ℕ) → IsLegal t front → ((c : ℕ) → c < length t.initials → IsKept t chosen front c) → IsLegal (given t chosen) front
  legal_given [] legal kept = IsLegal-start (given t chosen)
  legal_given (p ∷ earlier) legal kept = go (legal_given earlier (IsLegal-earlier t p earlier legal) (λ c h. kept_earlier p earlier c (kept c h))) (IsLegal-operation t p earlier legal) where
    go : IsLegal (given t chosen) earlier → (op : Op) × (following t earlier p ≡ Some op) → IsLegal (given t chosen) (p ∷ earlier)
    go before next = IsLegal-step (given t chosen) p earlier op before next.1 (⊎_elim within past (cases_lt a (length t.initials))) where
      op : Op
      op = next.0

      a : ℕ
      a = cell_of op

      found : IsTrue (finds op (value_before t earlier))
      found = IsLegal-finds t p earlier op legal next.1

      reads : a < length t.initials → value_before t earlier a ≡ None → IfSome (read_of op a) (λ read. chosen a ≡ read)
      reads h is_open =
          subst (λ o. IfSome o (λ value. chosen a ≡ value))
          (fixed_value-more t p earlier op a next.1 ∙ ap₂ (λ fixed value. option_or fixed (if is_none value then read_of op a else None)) (fixed_value-open t earlier a is_open) is_open) (kept a h)

      within : a < length t.initials → IsTrue (finds op (value_before (given t chosen) earlier))
      within h =
          finds-same op (value_before (given t chosen) earlier) (λ _. Some (unwrap_or (value_before t earlier a) (chosen a))) (value_before-given earlier a h (kept_earlier p earlier a (kept a h)))
          ∙ found_given op (value_before t earlier a) (sym (finds-same op (value_before t earlier) (λ _. value_before t earlier a) refl) ∙ found) (reads h)

      past : length t.initials ≤ a → IsTrue (finds op (value_before (given t chosen) earlier))
      past h = finds-same op (value_before (given t chosen) earlier) (value_before t earlier) (value_before-given_past earlier a h) ∙ found

-- ---- lists of values

All-cons_option : {Y : Type 0} (P : Y → Type 0) (o : Option Y) (ys : List Y) → IfSome o P → All P ys → All P (cons_option o ys)
All-cons_option P None ys here rest = rest
All-cons_option P (Some y) ys here rest = All-cons P y ys here rest

All-from_cons_option : {Y : Type 0} (P : Y → Type 0) (o : Option Y) (ys : List Y) → All P (cons_option o ys) → IfSome o P × All P ys
All-from_cons_option P None ys all = (tt, all)
All-from_cons_option P (Some y) ys all = (All-head P y ys all, All-tail P y ys all)

All-filter_map : {X Y : Type 0} (P : Y → Type 0) (h : X → Option Y) (xs : List X) → All (λ x. IfSome (h x) P) xs → All P (filter_map h xs)
All-filter_map P h [] all = All-nil P
All-filter_map P h (x ∷ xs) all =
    All-cons_option P (h x) (filter_map h xs) (All-head (λ x. IfSome (h x) P) x xs all) (All-filter_map P h xs (All-tail (λ x. IfSome (h x) P) x xs all))

All-from_filter_map : {X Y : Type 0} (P : Y → Type 0) (h : X → Option Y) (xs : List X) → All P (filter_map h xs) → All (λ x. IfSome (h x) P) xs
All-from_filter_map P h [] all = All-nil (λ x. IfSome (h x) P)
All-from_filter_map P h (x ∷ xs) all =
    All-cons (λ x. IfSome (h x) P) x xs (All-from_cons_option P (h x) (filter_map h xs) all).0 (All-from_filter_map P h xs (All-from_cons_option P (h x) (filter_map h xs) all).1)

-- a choice agrees with what a front fixes exactly where it does for each cell
module _ (t : Trace) (front : List ℕ) (chosen : ℕ → ℕ) where
  abbrev item : ℕ → Option (ℕ × ℕ)
  item c = option_map (λ value. (c, value)) (fixed_value t front c)

  abbrev cells : List ℕ
  cells = range_with_len 0 (length t.initials)

  is_kept : (c : ℕ) (o : Option ℕ) → IfSome o (λ value. chosen c ≡ value) ↔ IfSome {T = ℕ × ℕ} (option_map (λ value. (c, value)) o) (λ (pair : ℕ × ℕ). chosen pair.0 ≡ pair.1)
  is_kept c None = (λ h. h, λ h. h)
  is_kept c (Some v) = (λ h. h, λ h. h)

  pub Agrees-from_kept : ((c : ℕ) → c < length t.initials → IsKept t chosen front c) → Agrees chosen (fixed_values t front)
  Agrees-from_kept kept =
      All-filter_map (λ (pair : ℕ × ℕ). chosen pair.0 ≡ pair.1) item cells (λ k d h.
      let within : k < length t.initials = subst (λ n. k < n) (length-range_with_len 0 (length t.initials)) h in
      let here : get_or cells k d ≡ k = get_or-range_with_len 0 (length t.initials) k d within ∙ omega arith in
      subst (λ c. IfSome (item c) (λ (pair : ℕ × ℕ). chosen pair.0 ≡ pair.1)) (sym here) ((is_kept k (fixed_value t front k)).0 (kept k within)))

  pub kept_from_Agrees : Agrees chosen (fixed_values t front) → (c : ℕ) → c < length t.initials → IsKept t chosen front c
  kept_from_Agrees agrees c h =
      let in' : c < length cells = subst (λ n. c < n) (sym (length-range_with_len 0 (length t.initials))) h in
      let here : get_or cells c 0 ≡ c = get_or-range_with_len 0 (length t.initials) c 0 h ∙ omega arith in
      (is_kept c (fixed_value t front c)).1 (subst (λ a. IfSome (item a) (λ (pair : ℕ × ℕ). chosen pair.0 ≡ pair.1)) here (All-from_filter_map (λ (pair : ℕ × ℕ). chosen pair.0 ≡ pair.1) item cells agrees c 0 in'))

-- ---- the law

-- a front is legal under a choice exactly where it is legal and the choice agrees with what it fixes
pub IsLegal-given : (t : Trace) (front : List ℕ) (chosen : ℕ → ℕ) → IsLegal (given t chosen) front ↔ (IsLegal t front × Agrees chosen (fixed_values t front))
IsLegal-given t front chosen = (
  λ legal. let both = legal_from_given t chosen front legal in (both.0, Agrees-from_kept t front chosen both.1),
  λ both. legal_given t chosen front both.0 (kept_from_Agrees t front chosen both.1),
)

-- some choice agrees with what a front fixes
some_choice : (t : Trace) (front : List ℕ) → (chosen : ℕ → ℕ) × Agrees chosen (fixed_values t front)
some_choice t front = ((λ c. unwrap_or (fixed_value t front c) 0), Agrees-from_kept t front (λ c. unwrap_or (fixed_value t front c) 0) (λ c h. by (fixed_value t front c))) where
  by : (o : Option ℕ) → IfSome o (λ value. unwrap_or o 0 ≡ value)
  by None = tt
  by (Some v) = refl

-- a front is legal exactly where it is legal under some choice
pub IsLegal-given_some : (t : Trace) (front : List ℕ) → IsLegal t front ↔ ((chosen : ℕ → ℕ) × IsLegal (given t chosen) front)
IsLegal-given_some t front = (
  λ legal. let some = some_choice t front in (some.0, (IsLegal-given t front some.0).1 (legal, some.1)),
  λ some. ((IsLegal-given t front some.0).0 some.1).0,
)

-- and a trace is consistent exactly where it is under some choice
pub IsConsistent-given_some : (t : Trace) → IsConsistent t ↔ ((chosen : ℕ → ℕ) × IsConsistent (given t chosen))
IsConsistent-given_some t = (
  λ consistent.
      let some = (IsLegal-given_some t consistent.schedule).0 consistent.is_schedule.legal in
      (some.0, record { schedule = consistent.schedule; is_schedule = record { legal = some.1; whole = consistent.is_schedule.whole } }),
  λ some. record {
    schedule = some.1.schedule;
    is_schedule = record { legal = ((IsLegal-given t some.1.schedule some.0).0 some.1.is_schedule.legal).0; whole = some.1.is_schedule.whole };
  },
)

-- ---- choices from the widths of the cells

-- what a front reads of a cell that nothing wrote is what some operation reads of it
unwritten_read-fits : (t : Trace) (bits : ℕ → ℕ) → ReadsFit t bits → (front : List ℕ) (c : ℕ) → IfSome (unwritten_read t front c) (λ value. value < 2 ^ bits c)
unwritten_read-fits t bits fit [] c = subst (λ o. IfSome o (λ value. value < 2 ^ bits c)) (sym (unwritten_read-nil t c)) tt
unwritten_read-fits t bits fit (p ∷ earlier) c =
    subst (λ o. IfSome o (λ value. value < 2 ^ bits c)) (sym (unwritten_read-step t p earlier c))
    (by (unwritten_read t earlier c) (is_none (last_written t earlier c)) (option_and_then (λ op. read_of op c) (following t earlier p)) (unwritten_read-fits t bits fit earlier c) (fit p (count_in earlier p) c)) where
      by : (before : Option ℕ) (is_first : Bool) (read : Option ℕ) → IfSome before (λ value. value < 2 ^ bits c) → IfSome read (λ value. value < 2 ^ bits c)
          → IfSome (option_or before (if is_first then read else None)) (λ value. value < 2 ^ bits c)
      by (Some v) is_first read before_fits read_fits = before_fits
      by None true read before_fits read_fits = read_fits
      by None false read before_fits read_fits = tt

-- so what a front fixes fits, and 0 does for every other cell
some_choice-fits : (t : Trace) (bits : ℕ → ℕ) → ReadsFit t bits → (front : List ℕ) → ChosenFit (some_choice t front).0 bits
unfolding some_choice
some_choice-fits t bits fit front c = by (is_none (initial_of t c)) (unwritten_read t front c) (unwritten_read-fits t bits fit front c) where
  by : (is_unset : Bool) (read : Option ℕ) → IfSome read (λ value. value < 2 ^ bits c) → unwrap_or (if is_unset then read else None) 0 < 2 ^ bits c
  by true (Some v) fits = fits
  by true None fits = pow_pos (bits c)
  by false read fits = pow_pos (bits c)

-- where what is read fits the cells, a front is legal exactly where it is legal under some choice from their widths
pub IsLegal-given_in_width : (t : Trace) (bits : ℕ → ℕ) → ReadsFit t bits → (front : List ℕ) → IsLegal t front ↔ ((chosen : ℕ → ℕ) × ChosenFit chosen bits × IsLegal (given t chosen) front)
IsLegal-given_in_width t bits fit front = (
  λ legal. let some = some_choice t front in (some.0, some_choice-fits t bits fit front, (IsLegal-given t front some.0).1 (legal, some.1)),
  λ some. ((IsLegal-given t front some.0).0 some.2).0,
)

-- and it is consistent exactly where it is under such a choice
pub IsConsistent-given_in_width : (t : Trace) (bits : ℕ → ℕ) → ReadsFit t bits → IsConsistent t ↔ ((chosen : ℕ → ℕ) × ChosenFit chosen bits × IsConsistent (given t chosen))
IsConsistent-given_in_width t bits fit = (
  λ consistent.
      let some = (IsLegal-given_in_width t bits fit consistent.schedule).0 consistent.is_schedule.legal in
      (some.0, some.1, record { schedule = consistent.schedule; is_schedule = record { legal = some.2; whole = consistent.is_schedule.whole } }),
  λ some. (IsConsistent-given_some t).1 (some.0, some.2),
)
