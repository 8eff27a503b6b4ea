use Rattle.std.proofs.Common.{replicate, slice_set, ℕ, ◌≡◌, Bool, MatchBool, ap₂, List, length, take, get_or, reverse, Option, None, Some, slice_index, option_and_then, subst, sym, ap, ◌∙◌, arith}
use Rattle.std.proofs.lemmas.List.{take-replicate, length-replicate, get_or-replicate}
use Rattle.std.proofs.lemmas.List.FromFn.{length-map-range_with_len}
use Rattle.scm_sequences.specs.declared.limits.TheConstants.{MOST_CELLS}
use Rattle.scm_sequences.specs.declared.op.Op.{Op}
use Rattle.scm_sequences.specs.Traces.{fixed_value, Trace, trace_of}
use Rattle.scm_schedules.specs.Refuting.{open_read_of, step_by}
use Rattle.scm_sequences.specs.Sequences.{NamesCellsBelow, operation, lengths_of, cut_lists}
use Rattle.scm_sequences.specs.laws.SequenceLaws.{length-lengths_of, cut_lists-whole}
use Rattle.scm_frontier.specs.Situations.{Situated, start_of}
use Rattle.scm_frontier.specs.laws.StepLaws.{length-counts_situation_of, length-contents_situation_of}
use Rattle.scm_schedules.proofs.WalkLaws.{Walked, Walked-start, Walked-next}
use Rattle.scm_schedules.proofs.FixingLaws.{fixed_by-start, refill_set, fixed_next-none, fixed_next-some}
use Rattle.scm_schedules.proofs.fixing.open_reads.Goals as goal
use Rattle.scm_schedules.proofs.fixing.open_reads.Goals.{in-Some, in_default}

-- as many counts as lengths, and as many contents as cells
counts_of-walk : (t : Trace) (places lengths : List ℕ) (n : ℕ) (s : Situated) → lengths ≡ lengths_of t.sequences → Walked t places n s → length s.counts ≡ length lengths
counts_of-walk t places lengths n s are walked =
    ap (λ (u : Situated). length u.counts) (sym walked.ends) ∙ length-counts_situation_of t (reverse (take n places)) ∙ sym (ap length are ∙ length-lengths_of t.sequences)

cells_of-walk : (t : Trace) (places : List ℕ) (n : ℕ) (s : Situated) → NamesCellsBelow (length t.initials) t.sequences → Walked t places n s → NamesCellsBelow (length s.contents) t.sequences
cells_of-walk t places n s names walked =
    subst (λ m. NamesCellsBelow m t.sequences) (sym (ap (λ (u : Situated). length u.contents) (sym walked.ends) ∙ length-contents_situation_of t (reverse (take n places)))) names

-- at the lengths of the sequences nothing is cut off
read_at : (sequences : List (List Op)) (lengths : List ℕ) (s : Situated) (p q : ℕ) (read : Option (ℕ × ℕ)) → lengths ≡ lengths_of sequences → p ≡ q
    → read ≡ option_and_then (open_read_of s) (operation (cut_lists sequences lengths) p (slice_index s.counts p)) → option_and_then (open_read_of s) (operation sequences q (slice_index s.counts q)) ≡ read
read_at sequences lengths s p q read are same is =
    sym (is ∙ ap₂ (λ u k. option_and_then (open_read_of s) (operation u k (slice_index s.counts k))) (ap (cut_lists sequences) are ∙ cut_lists-whole sequences) same)

step_at : (sequences : List (List Op)) (lengths : List ℕ) (s after : Situated) (p q : ℕ) (result : Bool) → lengths ≡ lengths_of sequences → p ≡ q
    → MatchBool result (step_by (cut_lists sequences lengths) s p ≡ Some after) (step_by (cut_lists sequences lengths) s p ≡ None) → MatchBool result (step_by sequences s q ≡ Some after) (step_by sequences s q ≡ None)
step_at sequences lengths s after p q result are same stepped =
    subst (λ k. MatchBool result (step_by sequences s k ≡ Some after) (step_by sequences s k ≡ None)) same
    (subst (λ u. MatchBool result (step_by u s p ≡ Some after) (step_by u s p ≡ None)) (ap (cut_lists sequences) are ∙ cut_lists-whole sequences) stepped)

pub open_read-requires-clause-procs : goal.open_read-requires-clause-procs
open_read-requires-clause-procs c =
    counts_of-walk (trace_of c.args.initials.now c.args.sequences.now) c.args.front.now c.lengths-lengths.result c.loop-place.place-index c.loop-place.walk c.lengths-lengths.ensures c.loop-place.invariant.walked

pub open_read-requires-clause-cells : goal.open_read-requires-clause-cells
open_read-requires-clause-cells c =
    cells_of-walk (trace_of c.args.initials.now c.args.sequences.now) c.args.front.now c.loop-place.place-index c.loop-place.walk c.requires.cells c.loop-place.invariant.walked

pub step-requires-clause-procs : goal.step-requires-clause-procs
step-requires-clause-procs c =
    counts_of-walk (trace_of c.args.initials.now c.args.sequences.now) c.args.front.now c.lengths-lengths.result c.loop-place.place-index c.loop-place.walk c.lengths-lengths.ensures c.loop-place.invariant.walked

pub step-requires-clause-cells : goal.step-requires-clause-cells
step-requires-clause-cells c =
    cells_of-walk (trace_of c.args.initials.now c.args.sequences.now) c.args.front.now c.loop-place.place-index c.loop-place.walk c.requires.cells c.loop-place.invariant.walked

pub loop-place-init : goal.loop-place-init
loop-place-init c =
    let t : Trace = trace_of c.args.initials.now c.args.sequences.now in
    let tried = rw c.unwrap-values.ensures at c.try_from.ensures in
    let filled : c.unwrap-values.result.items ≡ replicate (length t.initials) None = tried.0 ∙ take-replicate (length t.initials) MOST_CELLS None c.requires.few in
    record {
      walked = subst (Walked t c.args.front.now 0) (ap (start_of c.args.initials.now) (sym c.procs.ensures.procs) ∙ sym c.start-walk.ensures) (Walked-start t c.args.front.now);
      fixed =
          fixed_by-start t c.unwrap-values.result.items (ap length filled ∙ length-replicate (length t.initials) None)
          (λ k h. ap (λ values. get_or values k None) filled ∙ get_or-replicate (length t.initials) k None None h);
    }

-- the cell is one of the trace
pub bounds-deref_mut-cell : goal.bounds-deref_mut-cell
bounds-deref_mut-cell c =
    let t : Trace = trace_of c.args.initials.now c.args.sequences.now in
    let read = read_at c.args.sequences.now c.lengths-lengths.result c.loop-place.walk c.from-p.result (get_or c.args.front.now c.loop-place.place-index 0) c.open_read.result c.lengths-lengths.ensures c.from-p.ensures c.open_read.ensures in
    let next = fixed_next-some t c.args.front.now c.loop-place.place-index c.loop-place.walk c.requires.cells c.loop-place.invariant.walked c.loop-place-test.true c.requires.legal c.in-Some.cell c.in-Some.value (read ∙ c.in-Some.is) in
    let as_many : length c.deref_mut.result.now ≡ length t.initials = ap length (c.deref_mut.ensures.value ∙ c.loop-place.invariant.fixed) ∙ length-map-range_with_len (fixed_value t (reverse (take c.loop-place.place-index c.args.front.now))) 0 (length t.initials) in
    omega (arith, next.0, as_many)

pub offset_bounds-deref_mut-cell : goal.offset_bounds-deref_mut-cell
offset_bounds-deref_mut-cell c = omega (arith, bounds-deref_mut-cell c, c.deref_mut.type_inv.1)

pub loop-place-preserved : goal.loop-place-preserved
loop-place-preserved c =
    let t : Trace = trace_of c.args.initials.now c.args.sequences.now in
    let read = read_at c.args.sequences.now c.lengths-lengths.result c.loop-place.walk c.from-p.result (get_or c.args.front.now c.loop-place.place-index 0) c.open_read.result c.lengths-lengths.ensures c.from-p.ensures c.open_read.ensures in
    let stepped = step_at c.args.sequences.now c.lengths-lengths.result c.loop-place.walk c.step.new.self c.from-p.result (get_or c.args.front.now c.loop-place.place-index 0) c.step.result c.lengths-lengths.ensures c.from-p.ensures c.step.ensures in
    record {
      walked = Walked-next t c.args.front.now c.loop-place.place-index c.loop-place.walk c.step.new.self c.step.result c.requires.cells c.loop-place.invariant.walked c.loop-place-test.true c.requires.legal stepped;
      fixed = elim c.match-open_read.branch [
        | in-Some w ↦
            let next = fixed_next-some t c.args.front.now c.loop-place.place-index c.loop-place.walk c.requires.cells c.loop-place.invariant.walked c.loop-place-test.true c.requires.legal w.in-Some.cell w.in-Some.value (read ∙ w.in-Some.is) in
            ap (λ values. values.items) w.values-is
            ∙ refill_set c.loop-place.values.items w.deref_mut.result.now w.in-Some.cell (Some w.in-Some.value) w.deref_mut.ensures.value
            ∙ ap (λ values. slice_set values w.in-Some.cell (Some w.in-Some.value)) c.loop-place.invariant.fixed ∙ sym next.1
        | in_default w ↦
            rw w.values-is
            (c.loop-place.invariant.fixed ∙ sym (fixed_next-none t c.args.front.now c.loop-place.place-index c.loop-place.walk c.requires.cells c.loop-place.invariant.walked c.loop-place-test.true c.requires.legal (read ∙ w.in_default.is)))
      ];
    }
