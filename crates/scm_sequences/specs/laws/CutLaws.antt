-- A front sees nothing of a trace but the operations at its places. So it is legal in a cut trace exactly where it
-- is legal in the whole one and stays within the counts, and it stays legal when operations are added.
use Rattle.std.proofs.Common.{ℕ, ◌≡◌, ◌+◌, ◌<◌, ◌≤◌, min, List, [], ◌∷◌, length, map, Some, slice_index, refl, sym, ap, ap₂, ◌∙◌, ⊎_elim, arith}
use Rattle.std.specs.Option.{option_or, option_and_then}
use Rattle.std.specs.List.{range_with_len}
use Rattle.std.proofs.lemmas.Bool.{cases_lt}
use Rattle.scm_sequences.specs.declared.op.Op.{Op}
use Rattle.scm_sequences.specs.Sequences.{cell_of, read_of, written_to, IsWithin, operation, operations, pushed, lengths_of, cut_lists}
use Rattle.scm_sequences.specs.laws.SequenceLaws.{length-pushed, operation-pushed, length-cut_lists, operation-cut_lists, length-operations_cut, lengths_of-cut_lists, cut_lists-whole}
use Rattle.scm_sequences.specs.Traces.{Trace, trace_of, initial_of, cut_to, count_in, counts_of, IsFront, following, last_written, first_read, value_before, IsLegal, IsSchedule}
use Rattle.scm_sequences.specs.laws.FrontLaws.{slice_index-counts_of, count_in-here, count_in-earlier, count_in_past, last_written-nil, last_written-step, first_read-nil, first_read-step, value_before-is, IsLegal-start, IsLegal-step, IsLegal-earlier, IsLegal-operation, IsLegal-finds, IsFront-from_IsLegal, finds-same}

-- ---- traces that agree on a front

-- the cells hold the same at first, and at each place of the front stands the same operation
pub record AgreeOn (t u : Trace) (front : List ℕ) : Type 0 where
  pub initials : t.initials ≡ u.initials
  pub places : (p k : ℕ) → k < count_in front p → operation t.sequences p k ≡ operation u.sequences p k

pub AgreeOn-sym : (t u : Trace) (front : List ℕ) → AgreeOn t u front → AgreeOn u t front
AgreeOn-sym t u front agree = record { initials = sym agree.initials; places = λ p k h. sym (agree.places p k h) }

pub AgreeOn-earlier : (t u : Trace) (p : ℕ) (earlier : List ℕ) → AgreeOn t u (p ∷ earlier) → AgreeOn t u earlier
AgreeOn-earlier t u p earlier agree =
    record {
      initials = agree.initials;
      places = λ q k h. agree.places q k (let more : count_in earlier q ≤ count_in (p ∷ earlier) q = count_in-earlier p earlier q in omega arith);
    }

pub following-agree : (t u : Trace) (p : ℕ) (earlier : List ℕ) → AgreeOn t u (p ∷ earlier) → following t earlier p ≡ following u earlier p
following-agree t u p earlier agree = agree.places p (count_in earlier p) (let more : count_in (p ∷ earlier) p ≡ count_in earlier p + 1 = count_in-here p earlier in omega arith)

pub last_written-agree : (t u : Trace) (front : List ℕ) (c : ℕ) → AgreeOn t u front → last_written t front c ≡ last_written u front c
last_written-agree t u [] c agree = last_written-nil t c ∙ sym (last_written-nil u c)
last_written-agree t u (p ∷ earlier) c agree =
    last_written-step t p earlier c
    ∙ ap₂ (λ next before. option_or (option_and_then (λ op. written_to op c) next) before) (following-agree t u p earlier agree) (last_written-agree t u earlier c (AgreeOn-earlier t u p earlier agree))
    ∙ sym (last_written-step u p earlier c)

pub first_read-agree : (t u : Trace) (front : List ℕ) (c : ℕ) → AgreeOn t u front → first_read t front c ≡ first_read u front c
first_read-agree t u [] c agree = first_read-nil t c ∙ sym (first_read-nil u c)
first_read-agree t u (p ∷ earlier) c agree =
    first_read-step t p earlier c
    ∙ ap₂ (λ next before. option_or before (option_and_then (λ op. read_of op c) next)) (following-agree t u p earlier agree) (first_read-agree t u earlier c (AgreeOn-earlier t u p earlier agree))
    ∙ sym (first_read-step u p earlier c)

initial_of-agree : (t u : Trace) (c : ℕ) → t.initials ≡ u.initials → initial_of t c ≡ initial_of u c
initial_of-agree t u c e = ap (λ initials. initial_of (trace_of initials []) c) e

pub value_before-agree : (t u : Trace) (front : List ℕ) (c : ℕ) → AgreeOn t u front → value_before t front c ≡ value_before u front c
value_before-agree t u front c agree =
    value_before-is t front c
    ∙ ap₂ (λ written rest. option_or written rest) (last_written-agree t u front c agree) (ap₂ option_or (initial_of-agree t u c agree.initials) (first_read-agree t u front c agree))
    ∙ sym (value_before-is u front c)

pub IsLegal-agree : (t u : Trace) (front : List ℕ) → AgreeOn t u front → IsLegal t front → IsLegal u front
IsLegal-agree t u [] agree legal = IsLegal-start u
IsLegal-agree t u (p ∷ earlier) agree legal =
    let found : (op : Op) × (following t earlier p ≡ Some op) = IsLegal-operation t p earlier legal in
    let before : AgreeOn t u earlier = AgreeOn-earlier t u p earlier agree in
    IsLegal-step u p earlier found.0
    (IsLegal-agree t u earlier before (IsLegal-earlier t p earlier legal))
    (sym (following-agree t u p earlier agree) ∙ found.1)
    (sym (finds-same found.0 (value_before t earlier) (value_before u earlier) (value_before-agree t u earlier (cell_of found.0) before)) ∙ IsLegal-finds t p earlier found.0 legal found.1)

pub counts_of-agree : (t u : Trace) (front : List ℕ) → length t.sequences ≡ length u.sequences → counts_of t front ≡ counts_of u front
counts_of-agree t u front e = ap (λ n. map (count_in front) (range_with_len 0 n)) e

-- ---- a cut

pub AgreeOn-cut : (t : Trace) (lengths front : List ℕ) → ((p : ℕ) → count_in front p ≤ slice_index lengths p) → AgreeOn (cut_to t lengths) t front
AgreeOn-cut t lengths front within =
    record { initials = refl; places = λ p k h. operation-cut_lists t.sequences lengths p k (let most : count_in front p ≤ slice_index lengths p = within p in omega arith) }

-- a legal front of the cut trace stays within the counts
pub count_in-cut : (t : Trace) (lengths front : List ℕ) → IsLegal (cut_to t lengths) front → (p : ℕ) → count_in front p ≤ slice_index lengths p
count_in-cut t lengths front legal p =
    let most : count_in front p ≤ length (operations (cut_lists t.sequences lengths) p) = IsFront-from_IsLegal (cut_to t lengths) front legal p in
    let short : length (operations (cut_lists t.sequences lengths) p) ≡ min (slice_index lengths p) (length (operations t.sequences p)) = length-operations_cut t.sequences lengths p in
    omega arith

-- a legal front that stays within the counts of every process is legal in the cut trace
pub IsLegal-cut : (t : Trace) (lengths front : List ℕ) → IsLegal t front → ((p : ℕ) → p < length t.sequences → count_in front p ≤ slice_index lengths p) → IsLegal (cut_to t lengths) front
IsLegal-cut t lengths front legal within = IsLegal-agree t (cut_to t lengths) front (AgreeOn-sym (cut_to t lengths) t front (AgreeOn-cut t lengths front everywhere)) legal where
  everywhere : (p : ℕ) → count_in front p ≤ slice_index lengths p
  everywhere p = ⊎_elim (within p) (λ past. let none : count_in front p ≡ 0 = count_in_past t front p legal past in omega arith) (cases_lt p (length t.sequences))

-- and a front that is legal in the cut trace is legal in the whole one
pub IsLegal-from_cut : (t : Trace) (lengths front : List ℕ) → IsLegal (cut_to t lengths) front → IsLegal t front
IsLegal-from_cut t lengths front legal = IsLegal-agree (cut_to t lengths) t front (AgreeOn-cut t lengths front (count_in-cut t lengths front legal)) legal

pub value_before-cut : (t : Trace) (lengths front : List ℕ) → IsLegal (cut_to t lengths) front → (c : ℕ) → value_before (cut_to t lengths) front c ≡ value_before t front c
value_before-cut t lengths front legal c = value_before-agree (cut_to t lengths) t front c (AgreeOn-cut t lengths front (count_in-cut t lengths front legal))

pub counts_of-cut : (t : Trace) (lengths front : List ℕ) → counts_of (cut_to t lengths) front ≡ counts_of t front
counts_of-cut t lengths front = counts_of-agree (cut_to t lengths) t front (length-cut_lists t.sequences lengths)

-- the schedules of a cut trace are the legal fronts with these very counts
pub IsSchedule-cut : (t : Trace) (lengths front : List ℕ) → IsWithin lengths (lengths_of t.sequences) → IsLegal t front → counts_of t front ≡ lengths → IsSchedule (cut_to t lengths) front
IsSchedule-cut t lengths front within legal whole =
    record {
      legal = IsLegal-cut t lengths front legal (λ p h. let count : slice_index (counts_of t front) p ≡ count_in front p = slice_index-counts_of t front p h in let same : slice_index (counts_of t front) p ≡ slice_index lengths p = ap (λ ns. slice_index ns p) whole in omega arith);
      whole = counts_of-cut t lengths front ∙ whole ∙ sym (lengths_of-cut_lists t.sequences lengths within);
    }

pub IsLegal-schedule_cut : (t : Trace) (lengths front : List ℕ) → IsSchedule (cut_to t lengths) front → IsLegal t front
IsLegal-schedule_cut t lengths front schedule = IsLegal-from_cut t lengths front schedule.legal

pub cut_to-whole : (t : Trace) → cut_to t (lengths_of t.sequences) ≡ t
cut_to-whole t = ap (trace_of t.initials) (cut_lists-whole t.sequences)

-- ---- one more operation

pub AgreeOn-pushed : (t : Trace) (p : ℕ) (op : Op) (front : List ℕ) → IsFront t front → AgreeOn t (trace_of t.initials (pushed t.sequences p op)) front
AgreeOn-pushed t p op front within =
    record { initials = refl; places = λ q k h. sym (operation-pushed t.sequences p op q k (let most : count_in front q ≤ length (operations t.sequences q) = within q in omega arith)) }

pub IsLegal-pushed : (t : Trace) (p : ℕ) (op : Op) (front : List ℕ) → IsLegal t front → IsLegal (trace_of t.initials (pushed t.sequences p op)) front
IsLegal-pushed t p op front legal = IsLegal-agree t (trace_of t.initials (pushed t.sequences p op)) front (AgreeOn-pushed t p op front (IsFront-from_IsLegal t front legal)) legal

pub value_before-pushed : (t : Trace) (p : ℕ) (op : Op) (front : List ℕ) → IsLegal t front → (c : ℕ) → value_before (trace_of t.initials (pushed t.sequences p op)) front c ≡ value_before t front c
value_before-pushed t p op front legal c = sym (value_before-agree t (trace_of t.initials (pushed t.sequences p op)) front c (AgreeOn-pushed t p op front (IsFront-from_IsLegal t front legal)))

pub counts_of-pushed : (t : Trace) (p : ℕ) (op : Op) (front : List ℕ) → counts_of (trace_of t.initials (pushed t.sequences p op)) front ≡ counts_of t front
counts_of-pushed t p op front = counts_of-agree (trace_of t.initials (pushed t.sequences p op)) t front (length-pushed t.sequences p op)
