use Rattle.std.proofs.Common.{◌≡◌, Some, slice_get, refl, subst, arith}
use Rattle.std.proofs.lemmas.Option.{get_or_from_slice_get, slice_get_within}
use borrow.Author.Count.{below_more}
use Rattle.scm_orders.specs.declared.derivation.Line.{Line}
use Rattle.scm_orders.specs.Refuting.{LineFollows}
use Rattle.scm_orders.proofs.refuting.all_follow.Goals as goal

pub loop-k-preserved : goal.loop-k-preserved
loop-k-preserved c =
    below_more (λ j. (line : Line) → slice_get c.args.lines.now j ≡ Some line → LineFollows c.args.trace.now c.args.lines.now c.args.hints.now j line) c.loop-k.k c.loop-k.invariant
    (λ line is. subst (LineFollows c.args.trace.now c.args.lines.now c.args.hints.now c.loop-k.k) (get_or_from_slice_get c.args.lines.now c.loop-k.k line _ is) (c.line_follows.ensures.0 c.if-not-line_follows.false))

pub returns : goal.returns
returns c = (
  (λ _. record { each = λ k line is. c.loop-k.invariant k (omega (arith, c.loop-k-test.false, slice_get_within c.args.lines.now k line is)) line is }),
  (λ _. refl),
)
