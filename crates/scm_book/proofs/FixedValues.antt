-- The values that a schedule fixes are those of cells, and a cut trace fixes the same.
use Rattle.std.proofs.Common.{◌≡◌, ◌+◌, ◌<◌, ◌≤◌, ℕ, zero, suc, List, [], ◌∷◌, Option, None, Some, is_none, filter_map, length, All, if◌then◌else◌, refl, sym, ap, ap₂, ◌∙◌, subst, arith}
use Rattle.std.specs.Option.{option_or, option_map, option_and_then}
use Rattle.std.specs.List.{range_with_len, cons_option}
use Rattle.std.proofs.lemmas.List.Elements.{All-nil, All-cons}
use Rattle.scm_sequences.specs.declared.op.Op.{Op}
use Rattle.scm_sequences.specs.Sequences.{read_of}
use Rattle.scm_sequences.specs.Traces.{Trace, trace_of, initial_of, cut_to, IsLegal, unwritten_read, fixed_value, fixed_values}
use Rattle.scm_sequences.specs.laws.FixedLaws.{unwritten_read-nil, unwritten_read-step}
use Rattle.scm_sequences.specs.laws.CutLaws.{AgreeOn, AgreeOn-earlier, AgreeOn-cut, following-agree, last_written-agree, count_in-cut}
use Rattle.scm_cells.specs.CellLists.{Declared, initials_of}
use Rattle.scm_cells.specs.laws.CellLaws.{length-initials_of}

-- ---- each is of a cell

below_all : (h : ℕ → Option ℕ) (a n m : ℕ) → a + n ≤ m → All (λ (value : ℕ × ℕ). value.0 < m) (filter_map (λ c. option_map (λ value. (c, value)) (h c)) (range_with_len a n))
below_all h a zero m most = All-nil (λ (value : ℕ × ℕ). value.0 < m)
below_all h a (suc n) m most = by (h a) (below_all h (a + 1) n m (omega arith)) where
  others : List (ℕ × ℕ)
  others = filter_map (λ c. option_map (λ value. (c, value)) (h c)) (range_with_len (a + 1) n)

  by : (o : Option ℕ) → All (λ (value : ℕ × ℕ). value.0 < m) others → All (λ (value : ℕ × ℕ). value.0 < m) (cons_option (option_map (λ value. (a, value)) o) others)
  by None rest = rest
  by (Some value) rest = All-cons (λ (value : ℕ × ℕ). value.0 < m) (a, value) others (omega arith) rest

pub fixed_below : (cells : List Declared) (sequences : List (List Op)) (front : List ℕ) (initials : List (Option ℕ)) (values : List (ℕ × ℕ)) → initials ≡ initials_of cells → values ≡ fixed_values (trace_of initials sequences) front → All (λ value. value.0 < length cells) values
fixed_below cells sequences front initials values held are =
    subst (λ n. All (λ (value : ℕ × ℕ). value.0 < n) values) (ap length held ∙ length-initials_of cells)
    (subst (All (λ (value : ℕ × ℕ). value.0 < length initials)) (sym are) (below_all (fixed_value (trace_of initials sequences) front) 0 (length initials) (length initials) (omega arith)))

-- ---- a cut

unwritten_read-agree : (t u : Trace) (front : List ℕ) (c : ℕ) → AgreeOn t u front → unwritten_read t front c ≡ unwritten_read u front c
unwritten_read-agree t u [] c agree = unwritten_read-nil t c ∙ sym (unwritten_read-nil u c)
unwritten_read-agree t u (p ∷ earlier) c agree =
    unwritten_read-step t p earlier c
    ∙ ap₂ option_or (unwritten_read-agree t u earlier c (AgreeOn-earlier t u p earlier agree))
    (ap₂ (λ written next. if is_none written then option_and_then (λ op. read_of op c) next else None) (last_written-agree t u earlier c (AgreeOn-earlier t u p earlier agree)) (following-agree t u p earlier agree))
    ∙ sym (unwritten_read-step u p earlier c)

filter_map-same : {X Y : Type 0} (g h : X → Option Y) (xs : List X) → ((x : X) → g x ≡ h x) → filter_map g xs ≡ filter_map h xs
filter_map-same g h [] same = refl
filter_map-same g h (x ∷ xs) same = ap₂ cons_option (same x) (filter_map-same g h xs same)

pub fixed_values-cut : (t : Trace) (lengths front : List ℕ) → IsLegal (cut_to t lengths) front → fixed_values (cut_to t lengths) front ≡ fixed_values t front
fixed_values-cut t lengths front legal =
    filter_map-same (λ c. option_map (λ value. (c, value)) (fixed_value (cut_to t lengths) front c)) (λ c. option_map (λ value. (c, value)) (fixed_value t front c)) (range_with_len 0 (length t.initials))
    (λ c. ap (λ read. option_map (λ value. (c, value)) (if is_none (initial_of t c) then read else None)) (unwritten_read-agree (cut_to t lengths) t front c (AgreeOn-cut t lengths front (count_in-cut t lengths front legal))))
