use Rattle.std.proofs.Common.{◌≡◌, length, refl, ap, ◌∙◌, arith}
use borrow.Author.Count.{below_more}
use Rattle.scm_sequences.specs.Sequences.{operations}
use Rattle.scm_orders.specs.Refuting.{IsSettled}
use Rattle.scm_orders.proofs.MomentLaws.{place_of}
use Rattle.scm_orders.proofs.PlaceLaws.{written_within}
use Rattle.scm_orders.proofs.candidates.is_process_settled.Goals as goal

pub loop-at-preserved : goal.loop-at-preserved
loop-at-preserved c =
    below_more (λ at. IsSettled c.args.on.now.trace.now c.args.on.now.earlier.now c.args.on.now.hints.now c.args.read c.args.left (place_of c.args.process at)) c.loop-at.at c.loop-at.invariant
    (c.is_settled.ensures.0 c.if-not-is_settled.false)

pub returns : goal.returns
returns c = (
  (λ _ at wrote.
      let count : c.count-at-end.result ≡ length (operations c.args.on.now.trace.now.sequences c.args.process) = c.count-at-end.ensures.count ∙ ap (λ p. length (operations c.args.on.now.trace.now.sequences p)) c.from.ensures in
      c.loop-at.invariant at (omega (arith, c.loop-at-test.false, count, (written_within c.args.on.now.trace.now (place_of c.args.process at) c.args.read.cell c.args.read.value wrote).1)) wrote),
  (λ _. refl),
)
