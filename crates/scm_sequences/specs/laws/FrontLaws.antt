-- The laws of fronts: what one more place adds to the counts, to what was written and read, and to legality.
use Rattle.std.proofs.Common.{ℕ, ◌≡◌, ◌≢◌, ◌+◌, ◌<◌, ◌≤◌, ◌==◌, true, false, cond, List, [], ◌∷◌, ◌++◌, length, Option, None, Some, IsSomeAnd, IsTrue, slice_index, slice_set, if◌then◌else◌, refl, sym, ap, ap₂, ◌∙◌, subst, ⊎_elim, arith}
use Rattle.std.specs.Option.{option_or, option_and_then}
use Rattle.std.proofs.lemmas.Bool.{cases_eq, cases_lt, cond-true, cond-false, eq-eqb, ne_eqb, eqb-true}
use Rattle.std.proofs.lemmas.List.{ext_get_or, length-set, get_or-set_same, get_or-set_other, get_or_past}
use Rattle.std.proofs.lemmas.List.FromFn.{length-map-range_with_len, get_or-map-range_with_len}
use Rattle.std.proofs.lemmas.List.Sums.{sum_by-cons}
use Rattle.scm_sequences.specs.declared.op.Op.{Op}
use Rattle.scm_sequences.specs.declared.op.Op.TheVariants.{R, W, Rw}
use Rattle.scm_sequences.specs.Sequences.{cell_of, read_of, written_to, value_after, may_give, finds, operations}
use Rattle.scm_sequences.specs.laws.SequenceLaws.{operation_within, process_within, operations_past}
use Rattle.scm_sequences.specs.Traces.{Trace, initial_of, count_in, counts_of, IsFront, following, last_written, first_read, value_before, IsLegal}

-- ---- counts

pub count_in-nil : (p : ℕ) → count_in [] p ≡ 0
unfolding count_in
count_in-nil p = refl

pub count_in-step : (q : ℕ) (earlier : List ℕ) (p : ℕ) → count_in (q ∷ earlier) p ≡ (if q == p then 1 else 0) + count_in earlier p
unfolding count_in
count_in-step q earlier p = sum_by-cons (λ r. cond (r == p) 1 0) q earlier

pub count_in-here : (p : ℕ) (earlier : List ℕ) → count_in (p ∷ earlier) p ≡ count_in earlier p + 1
count_in-here p earlier = count_in-step p earlier p ∙ ap (λ b. (if b then 1 else 0) + count_in earlier p) (eq-eqb p p refl) ∙ omega arith

pub count_in-other : (q : ℕ) (earlier : List ℕ) (p : ℕ) → q ≢ p → count_in (q ∷ earlier) p ≡ count_in earlier p
count_in-other q earlier p ne = count_in-step q earlier p ∙ ap (λ b. (if b then 1 else 0) + count_in earlier p) (ne_eqb q p ne) ∙ omega arith

-- a longer front has no smaller counts
pub count_in-earlier : (q : ℕ) (earlier : List ℕ) (p : ℕ) → count_in earlier p ≤ count_in (q ∷ earlier) p
count_in-earlier q earlier p = let step : count_in (q ∷ earlier) p ≡ (if q == p then 1 else 0) + count_in earlier p = count_in-step q earlier p in omega arith

pub length-counts_of : (t : Trace) (front : List ℕ) → length (counts_of t front) ≡ length t.sequences
length-counts_of t front = length-map-range_with_len (count_in front) 0 (length t.sequences)

pub slice_index-counts_of : (t : Trace) (front : List ℕ) (p : ℕ) → p < length t.sequences → slice_index (counts_of t front) p ≡ count_in front p
slice_index-counts_of t front p h = get_or-map-range_with_len (count_in front) 0 (length t.sequences) p p 0 h (omega arith)

pub slice_index-counts_of_past : (t : Trace) (front : List ℕ) (p : ℕ) → length t.sequences ≤ p → slice_index (counts_of t front) p ≡ 0
slice_index-counts_of_past t front p h = get_or_past (counts_of t front) p 0 (omega (arith, length-counts_of t front))

pub counts_of-step : (t : Trace) (p : ℕ) (earlier : List ℕ) → p < length t.sequences → counts_of t (p ∷ earlier) ≡ slice_set (counts_of t earlier) p (slice_index (counts_of t earlier) p + 1)
counts_of-step t p earlier in_p =
    ext_get_or 0 (counts_of t (p ∷ earlier)) (slice_set (counts_of t earlier) p (slice_index (counts_of t earlier) p + 1))
    (length-counts_of t (p ∷ earlier) ∙ sym (length-counts_of t earlier) ∙ sym (length-set (counts_of t earlier) p (slice_index (counts_of t earlier) p + 1))) at where
      at : (q : ℕ) → q < length (counts_of t (p ∷ earlier)) → slice_index (counts_of t (p ∷ earlier)) q ≡ slice_index (slice_set (counts_of t earlier) p (slice_index (counts_of t earlier) p + 1)) q
      at q h = slice_index-counts_of t (p ∷ earlier) q in_q ∙ ⊎_elim here other (cases_eq q p) where
        in_q : q < length t.sequences
        in_q = omega (arith, length-counts_of t (p ∷ earlier))

        here : q ≡ p → count_in (p ∷ earlier) q ≡ slice_index (slice_set (counts_of t earlier) p (slice_index (counts_of t earlier) p + 1)) q
        here same =
            ap (count_in (p ∷ earlier)) same ∙ count_in-here p earlier ∙ ap (λ n. n + 1) (sym (slice_index-counts_of t earlier p in_p))
            ∙ sym (ap (slice_index (slice_set (counts_of t earlier) p (slice_index (counts_of t earlier) p + 1))) same
            ∙ get_or-set_same (counts_of t earlier) p (slice_index (counts_of t earlier) p + 1) 0 (omega (arith, length-counts_of t earlier)))

        other : q ≢ p → count_in (p ∷ earlier) q ≡ slice_index (slice_set (counts_of t earlier) p (slice_index (counts_of t earlier) p + 1)) q
        other ne =
            count_in-other p earlier q (λ same. ne (sym same)) ∙ sym (slice_index-counts_of t earlier q in_q)
            ∙ sym (get_or-set_other (counts_of t earlier) p q (slice_index (counts_of t earlier) p + 1) 0 ne)

-- ---- what was written, and what was read

pub last_written-nil : (t : Trace) (c : ℕ) → last_written t [] c ≡ None
unfolding last_written
last_written-nil t c = refl

pub last_written-step : (t : Trace) (p : ℕ) (earlier : List ℕ) (c : ℕ) → last_written t (p ∷ earlier) c ≡ option_or (option_and_then (λ op. written_to op c) (following t earlier p)) (last_written t earlier c)
unfolding last_written
last_written-step t p earlier c = refl

pub first_read-nil : (t : Trace) (c : ℕ) → first_read t [] c ≡ None
unfolding first_read
first_read-nil t c = refl

pub first_read-step : (t : Trace) (p : ℕ) (earlier : List ℕ) (c : ℕ) → first_read t (p ∷ earlier) c ≡ option_or (first_read t earlier c) (option_and_then (λ op. read_of op c) (following t earlier p))
unfolding first_read
first_read-step t p earlier c = refl

pub value_before-is : (t : Trace) (front : List ℕ) (c : ℕ) → value_before t front c ≡ option_or (last_written t front c) (option_or (initial_of t c) (first_read t front c))
unfolding value_before
value_before-is t front c = refl

option_or-none : {X : Type 0} (o : Option X) → option_or o None ≡ o
option_or-none None = refl
option_or-none (Some x) = refl

-- the parts of a value, put in the order of the places
regroup : {X : Type 0} (written last initial first read : Option X) → option_or (option_or written last) (option_or initial (option_or first read)) ≡ option_or written (option_or (option_or last (option_or initial first)) read)
regroup (Some w) last initial first read = refl
regroup None (Some l) initial first read = refl
regroup None None (Some i) first read = refl
regroup None None None (Some f) read = refl
regroup None None None None read = refl

pub value_before-start : (t : Trace) (c : ℕ) → value_before t [] c ≡ initial_of t c
unfolding value_before last_written first_read
value_before-start t c = option_or-none (initial_of t c)

-- one more place: what it wrote; else the value before it; else what it read
pub value_before-more : (t : Trace) (p : ℕ) (earlier : List ℕ) (op : Op) (c : ℕ) → following t earlier p ≡ Some op
    → value_before t (p ∷ earlier) c ≡ option_or (written_to op c) (option_or (value_before t earlier c) (read_of op c))
unfolding value_before
value_before-more t p earlier op c e =
    ap₂ (λ w r. option_or w (option_or (initial_of t c) r))
    (last_written-step t p earlier c ∙ ap (λ o. option_or (option_and_then (λ op. written_to op c) o) (last_written t earlier c)) e)
    (first_read-step t p earlier c ∙ ap (λ o. option_or (first_read t earlier c) (option_and_then (λ op. read_of op c) o)) e)
    ∙ regroup (written_to op c) (last_written t earlier c) (initial_of t c) (first_read t earlier c) (read_of op c)

-- ---- legality

pub IsLegal-start : (t : Trace) → IsLegal t []
unfolding IsLegal
IsLegal-start t = tt

pub IsLegal-step : (t : Trace) (p : ℕ) (earlier : List ℕ) (op : Op) → IsLegal t earlier → following t earlier p ≡ Some op → IsTrue (finds op (value_before t earlier)) → IsLegal t (p ∷ earlier)
unfolding IsLegal
IsLegal-step t p earlier op legal e found = (legal, subst (λ o. IsSomeAnd o (λ op. IsTrue (finds op (value_before t earlier)))) (sym e) found)

pub IsLegal-earlier : (t : Trace) (p : ℕ) (earlier : List ℕ) → IsLegal t (p ∷ earlier) → IsLegal t earlier
unfolding IsLegal
IsLegal-earlier t p earlier legal = legal.0

pub IsLegal-last : (t : Trace) (p : ℕ) (earlier : List ℕ) → IsLegal t (p ∷ earlier) → IsSomeAnd (following t earlier p) (λ op. IsTrue (finds op (value_before t earlier)))
unfolding IsLegal
IsLegal-last t p earlier legal = legal.1

-- the last place of a legal front finds what it reads
pub IsLegal-finds : (t : Trace) (p : ℕ) (earlier : List ℕ) (op : Op) → IsLegal t (p ∷ earlier) → following t earlier p ≡ Some op → IsTrue (finds op (value_before t earlier))
IsLegal-finds t p earlier op legal e = subst (λ o. IsSomeAnd o (λ op. IsTrue (finds op (value_before t earlier)))) e (IsLegal-last t p earlier legal)

-- the last place of a legal front is an operation of its process
pub IsLegal-operation : (t : Trace) (p : ℕ) (earlier : List ℕ) → IsLegal t (p ∷ earlier) → (op : Op) × (following t earlier p ≡ Some op)
IsLegal-operation t p earlier legal = go (following t earlier p) refl where
  go : (o : Option Op) → following t earlier p ≡ o → (op : Op) × (following t earlier p ≡ Some op)
  go None e = absurd (subst (λ o. IsSomeAnd o (λ op. IsTrue (finds op (value_before t earlier)))) e (IsLegal-last t p earlier legal))
  go (Some op) e = (op, e)

pub IsLegal-process : (t : Trace) (p : ℕ) (earlier : List ℕ) → IsLegal t (p ∷ earlier) → p < length t.sequences
IsLegal-process t p earlier legal = let found = IsLegal-operation t p earlier legal in process_within t.sequences p (count_in earlier p) found.0 found.1

-- each place of a legal front is an operation of its process
pub IsFront-from_IsLegal : (t : Trace) (front : List ℕ) → IsLegal t front → IsFront t front
IsFront-from_IsLegal t [] legal = λ p. let none : count_in [] p ≡ 0 = count_in-nil p in omega arith
IsFront-from_IsLegal t (q ∷ earlier) legal = go (IsFront-from_IsLegal t earlier (IsLegal-earlier t q earlier legal)) where
  here : (p : ℕ) → q ≡ p → count_in (q ∷ earlier) p ≤ length (operations t.sequences p)
  here p same =
      let found : (op : Op) × (following t earlier q ≡ Some op) = IsLegal-operation t q earlier legal in
      let in' : count_in earlier q < length (operations t.sequences q) = operation_within t.sequences q (count_in earlier q) found.0 found.1 in
      let more : count_in (q ∷ earlier) q ≡ count_in earlier q + 1 = count_in-here q earlier in
      subst (λ r. count_in (q ∷ earlier) r ≤ length (operations t.sequences r)) same (omega arith)

  other : IsFront t earlier → (p : ℕ) → q ≢ p → count_in (q ∷ earlier) p ≤ length (operations t.sequences p)
  other before p ne =
      let fits : count_in earlier p ≤ length (operations t.sequences p) = before p in
      let same : count_in (q ∷ earlier) p ≡ count_in earlier p = count_in-other q earlier p ne in
      omega arith

  go : IsFront t earlier → (p : ℕ) → count_in (q ∷ earlier) p ≤ length (operations t.sequences p)
  go before p = ⊎_elim (here p) (other before p) (cases_eq q p)

-- no place of a legal front is of a process past the last, so its counts are known of every number
pub count_in_past : (t : Trace) (front : List ℕ) (p : ℕ) → IsLegal t front → length t.sequences ≤ p → count_in front p ≡ 0
count_in_past t front p legal past =
    let none : length (operations t.sequences p) ≡ 0 = ap length (operations_past t.sequences p past) in
    let most : count_in front p ≤ length (operations t.sequences p) = IsFront-from_IsLegal t front legal p in
    omega arith

pub slice_index-counts_of_legal : (t : Trace) (front : List ℕ) (p : ℕ) → IsLegal t front → slice_index (counts_of t front) p ≡ count_in front p
slice_index-counts_of_legal t front p legal =
    ⊎_elim (slice_index-counts_of t front p) (λ past. slice_index-counts_of_past t front p past ∙ sym (count_in_past t front p legal past)) (cases_lt p (length t.sequences))

-- an operation looks at its own cell alone
pub finds-same : (op : Op) (f g : ℕ → Option ℕ) → f (cell_of op) ≡ g (cell_of op) → finds op f ≡ finds op g
finds-same (R c d) f g e = ap (λ v. may_give v d) e
finds-same (W c d) f g e = refl
finds-same (Rw c d x) f g e = ap (λ v. may_give v d) e

-- what a cell holds after an operation that finds what it reads: where the cell is its own, the value that it
-- leaves there, whatever kind it is
holds_after : (op : Op) (c : ℕ) (value : ℕ → Option ℕ) → IsTrue (finds op value) → option_or (written_to op c) (option_or (value c) (read_of op c)) ≡ (if cell_of op == c then Some (value_after op) else value c)
holds_after op c value found = ⊎_elim (here op found) (other op) (cases_eq (cell_of op) c) where
  given : (v : Option ℕ) (d : ℕ) → IsTrue (may_give v d) → option_or v (Some d) ≡ Some d
  given None d h = refl
  given (Some x) d h = ap Some (eqb-true x d h)

  here : (op : Op) → IsTrue (finds op value) → cell_of op ≡ c → option_or (written_to op c) (option_or (value c) (read_of op c)) ≡ (if cell_of op == c then Some (value_after op) else value c)
  here (R a d) found same =
      let yes : (a == c) ≡ true = eq-eqb a c same in
      ap (λ b. option_or (value c) (if b then Some d else None)) yes ∙ given (value c) d (subst (λ r. IsTrue (may_give (value r) d)) same found) ∙ sym (cond-true (a == c) (Some d) (value c) yes)
  here (W a d) found same =
      let yes : (a == c) ≡ true = eq-eqb a c same in
      ap (λ b. option_or (if b then Some d else None) (option_or (value c) None)) yes ∙ sym (cond-true (a == c) (Some d) (value c) yes)
  here (Rw a d x) found same =
      let yes : (a == c) ≡ true = eq-eqb a c same in
      ap (λ b. option_or (if b then Some x else None) (option_or (value c) (if b then Some d else None))) yes ∙ sym (cond-true (a == c) (Some x) (value c) yes)

  other : (op : Op) → cell_of op ≢ c → option_or (written_to op c) (option_or (value c) (read_of op c)) ≡ (if cell_of op == c then Some (value_after op) else value c)
  other (R a d) ne =
      let no_cell : (a == c) ≡ false = ne_eqb a c ne in
      ap (λ b. option_or (value c) (if b then Some d else None)) no_cell ∙ option_or-none (value c) ∙ sym (cond-false (a == c) (Some d) (value c) no_cell)
  other (W a d) ne =
      let no_cell : (a == c) ≡ false = ne_eqb a c ne in
      ap (λ b. option_or (if b then Some d else None) (option_or (value c) None)) no_cell ∙ option_or-none (value c) ∙ sym (cond-false (a == c) (Some d) (value c) no_cell)
  other (Rw a d x) ne =
      let no_cell : (a == c) ≡ false = ne_eqb a c ne in
      ap (λ b. option_or (if b then Some x else None) (option_or (value c) (if b then Some d else None))) no_cell ∙ option_or-none (value c) ∙ sym (cond-false (a == c) (Some x) (value c) no_cell)

-- after a legal place the cell of its operation holds what that left there, and each other cell what it held
pub value_before-step : (t : Trace) (p : ℕ) (earlier : List ℕ) (op : Op) (c : ℕ) → IsLegal t (p ∷ earlier) → following t earlier p ≡ Some op
    → value_before t (p ∷ earlier) c ≡ (if cell_of op == c then Some (value_after op) else value_before t earlier c)
value_before-step t p earlier op c legal e = value_before-more t p earlier op c e ∙ holds_after op c (value_before t earlier) (IsLegal-finds t p earlier op legal e)

pub value_before-here : (t : Trace) (p : ℕ) (earlier : List ℕ) (op : Op) → IsLegal t (p ∷ earlier) → following t earlier p ≡ Some op → value_before t (p ∷ earlier) (cell_of op) ≡ Some (value_after op)
value_before-here t p earlier op legal e = value_before-step t p earlier op (cell_of op) legal e ∙ cond-true (cell_of op == cell_of op) (Some (value_after op)) (value_before t earlier (cell_of op)) (eq-eqb (cell_of op) (cell_of op) refl)

pub value_before-other : (t : Trace) (p : ℕ) (earlier : List ℕ) (op : Op) (c : ℕ) → IsLegal t (p ∷ earlier) → following t earlier p ≡ Some op → cell_of op ≢ c → value_before t (p ∷ earlier) c ≡ value_before t earlier c
value_before-other t p earlier op c legal e ne = value_before-step t p earlier op c legal e ∙ cond-false (cell_of op == c) (Some (value_after op)) (value_before t earlier c) (ne_eqb (cell_of op) c ne)

-- ---- fronts that are longer by more than one place

pub IsLegal-suffix : (t : Trace) (later earlier : List ℕ) → IsLegal t (later ++ earlier) → IsLegal t earlier
IsLegal-suffix t [] earlier legal = legal
IsLegal-suffix t (p ∷ later) earlier legal = IsLegal-suffix t later earlier (IsLegal-earlier t p (later ++ earlier) legal)
