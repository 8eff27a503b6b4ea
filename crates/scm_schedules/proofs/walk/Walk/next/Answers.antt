use Rattle.std.proofs.Common.{ℕ, ◌<◌, ◌≤◌, List, length, slice_index, sym, ap, ◌∙◌, arith}
use Rattle.std.proofs.lemmas.List.{get_or_past}
use Rattle.scm_sequences.specs.Sequences.{operation}
use Rattle.scm_sequences.specs.laws.SequenceLaws.{operation-cut_lists, operation-cut_lists_past}
use Rattle.scm_frontier.specs.Situations.{Situated}
use Rattle.scm_schedules.proofs.walk.Walk.next.Goals as goal
use Rattle.scm_schedules.proofs.walk.Walk.next.Goals.{else-p-procs-via-then-p-procs+else-deref-p, else-p-procs-via-else-p-procs}

pub returns-then-deref-p-clause-next : goal.returns-then-deref-p-clause-next
returns-then-deref-p-clause-next c =
    let counts : List ℕ = c.args.self.now.counts in
    let viewed = ap (λ (s : Situated). s.counts) c.self.view_is in
    let tested = ap (λ (ns : List ℕ). slice_index ns c.args.p) (c.deref.ensures.0 ∙ viewed) in
    let read = ap (λ (ns : List ℕ). slice_index ns c.args.p) (c.deref-then-deref-p.ensures.0 ∙ viewed) in
    let below : slice_index counts c.args.p < slice_index c.args.lengths.now c.args.p = omega (arith, tested, c.get.ensures, c.if-deref-p.true) in
    c.next.ensures.next ∙ ap (operation c.args.sequences.now c.args.p) read
    ∙ sym (operation-cut_lists c.args.sequences.now c.args.lengths.now c.args.p (slice_index counts c.args.p) below)

pub returns-else-p-procs-clause-next : goal.returns-else-p-procs-clause-next
returns-else-p-procs-clause-next c =
    let viewed = ap (λ (s : Situated). s.counts) c.self.view_is in
    sym (operation-cut_lists_past c.args.sequences.now c.args.lengths.now c.args.p (slice_index c.args.self.now.counts c.args.p)
    (elim c.else-p-procs.branch [
      | else-p-procs-via-then-p-procs+else-deref-p w ↦
          let tested = ap (λ (ns : List ℕ). slice_index ns c.args.p) (w.deref.ensures.0 ∙ viewed) in
          omega (arith, tested, w.get.ensures, w.if-deref-p.false)
      | else-p-procs-via-else-p-procs w ↦
          let past : length c.args.lengths.now ≤ c.args.p = omega (arith, c.procs.ensures.procs, w.if-p-procs.false) in
          omega (arith, get_or_past c.args.lengths.now c.args.p 0 past)
    ]))
