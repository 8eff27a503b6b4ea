use Rattle.std.proofs.Common.{ℕ, ◌≡◌, ◌↔◌, List, length, reverse, take, IsTrue, subst, sym, ap, ◌∙◌}
use Rattle.scm_sequences.specs.Sequences.{NamesCellsBelow, lengths_of}
use Rattle.scm_sequences.specs.laws.SequenceLaws.{length-lengths_of, length-cut_lists, lengths_of-cut_lists, NamesCellsBelow-cut_lists}
use Rattle.scm_sequences.specs.Traces.{Trace, trace_of, cut_to}
use Rattle.scm_frontier.specs.Situations.{Situated, start_of}
use Rattle.scm_frontier.specs.laws.StepLaws.{length-counts_situation_of, length-contents_situation_of}
use Rattle.scm_schedules.proofs.WalkLaws.{Walked, Walked-start, Walked-step, Walked-stop, Walked-end}
use Rattle.scm_schedules.specs.Refuting.{step_by}
use Rattle.scm_schedules.proofs.legal.is_legal.Goals as goal

-- as many counts as lengths, and as many contents as cells
counts_of-walk : (t : Trace) (lengths places : List ℕ) (n : ℕ) (s : Situated) → length lengths ≡ length (lengths_of t.sequences) → Walked (cut_to t lengths) places n s → length s.counts ≡ length lengths
counts_of-walk t lengths places n s as_many walked =
    ap (λ (u : Situated). length u.counts) (sym walked.ends) ∙ length-counts_situation_of (cut_to t lengths) (reverse (take n places))
    ∙ length-cut_lists t.sequences lengths ∙ sym (as_many ∙ length-lengths_of t.sequences)

contents_of-walk : (t : Trace) (lengths places : List ℕ) (n : ℕ) (s : Situated) → Walked (cut_to t lengths) places n s → length s.contents ≡ length t.initials
contents_of-walk t lengths places n s walked = ap (λ (u : Situated). length u.contents) (sym walked.ends) ∙ length-contents_situation_of (cut_to t lengths) (reverse (take n places))

pub loop-place-init : goal.loop-place-init
loop-place-init c =
    let t : Trace = cut_to (trace_of c.args.initials.now c.args.sequences.now) c.args.lengths.now in
    let as_many : length t.sequences ≡ c.procs.result =
    length-cut_lists c.args.sequences.now c.args.lengths.now ∙ sym (c.procs.ensures.procs ∙ c.requires.within.procs ∙ length-lengths_of c.args.sequences.now) in
    subst (Walked t c.args.places.now 0) (ap (start_of c.args.initials.now) as_many ∙ sym c.start-walk.ensures) (Walked-start t c.args.places.now)

pub step-requires-clause-procs : goal.step-requires-clause-procs
step-requires-clause-procs c =
    counts_of-walk (trace_of c.args.initials.now c.args.sequences.now) c.args.lengths.now c.args.places.now c.loop-place.place-index c.loop-place.walk c.requires.within.procs c.loop-place.invariant

pub step-requires-clause-cells : goal.step-requires-clause-cells
step-requires-clause-cells c =
    subst (λ n. NamesCellsBelow n c.args.sequences.now)
    (sym (contents_of-walk (trace_of c.args.initials.now c.args.sequences.now) c.args.lengths.now c.args.places.now c.loop-place.place-index c.loop-place.walk c.loop-place.invariant))
    c.requires.cells

pub returns-then-not-step : goal.returns-then-not-step
returns-then-not-step c =
    let t : Trace = cut_to (trace_of c.args.initials.now c.args.sequences.now) c.args.lengths.now in
    let names : NamesCellsBelow (length t.initials) t.sequences = NamesCellsBelow-cut_lists (length c.args.initials.now) c.args.sequences.now c.args.lengths.now c.requires.cells in
    Walked-stop t c.args.places.now c.loop-place.place-index c.loop-place.walk names c.loop-place.invariant c.loop-place-test.true
    (ap (step_by t.sequences c.loop-place.walk) (sym c.from.ensures) ∙ c.if-not-step.ensures)

pub loop-place-preserved : goal.loop-place-preserved
loop-place-preserved c =
    let t : Trace = cut_to (trace_of c.args.initials.now c.args.sequences.now) c.args.lengths.now in
    let names : NamesCellsBelow (length t.initials) t.sequences = NamesCellsBelow-cut_lists (length c.args.initials.now) c.args.sequences.now c.args.lengths.now c.requires.cells in
    Walked-step t c.args.places.now c.loop-place.place-index c.loop-place.walk c.step.new.self names c.loop-place.invariant c.loop-place-test.true
    (ap (step_by t.sequences c.loop-place.walk) (sym c.from.ensures) ∙ c.if-not-step.ensures)

pub has_all-requires : goal.has_all-requires
has_all-requires c =
    counts_of-walk (trace_of c.args.initials.now c.args.sequences.now) c.args.lengths.now c.args.places.now c.loop-place.place-index c.loop-place.walk c.requires.within.procs c.loop-place.invariant

pub returns : goal.returns
returns c =
    let t : Trace = cut_to (trace_of c.args.initials.now c.args.sequences.now) c.args.lengths.now in
    let whole : lengths_of t.sequences ≡ c.args.lengths.now = lengths_of-cut_lists c.args.sequences.now c.args.lengths.now c.requires.within in
    Walked-end t c.args.places.now c.loop-place.place-index c.loop-place.walk c.has_all.result c.loop-place.invariant c.loop-place-test.false
    (subst (λ lengths. IsTrue c.has_all.result ↔ (c.loop-place.walk.counts ≡ lengths)) (sym whole) c.has_all.ensures)
