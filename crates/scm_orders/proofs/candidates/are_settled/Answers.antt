use Rattle.std.proofs.Common.{ℕ, refl, sym, ◌∙◌, arith}
use borrow.Author.Count.{below_more}
use Rattle.scm_orders.specs.Refuting.{IsSettled}
use Rattle.scm_orders.proofs.MomentLaws.{place_of}
use Rattle.scm_orders.proofs.PlaceLaws.{written_within}
use Rattle.scm_orders.proofs.candidates.are_settled.Goals as goal

pub returns-then-not-is_process_settled : goal.returns-then-not-is_process_settled
returns-then-not-is_process_settled c = ((λ f. absurd (cc f)), (λ all. sym c.if-not-is_process_settled.true ∙ c.is_process_settled.ensures.1 (λ at. all (place_of c.loop-p.p at))))

pub loop-p-preserved : goal.loop-p-preserved
loop-p-preserved c =
    below_more (λ process. (at : ℕ) → IsSettled c.args.on.now.trace.now c.args.on.now.earlier.now c.args.on.now.hints.now c.args.read c.args.left (place_of process at)) c.loop-p.p c.loop-p.invariant
    (c.is_process_settled.ensures.0 c.if-not-is_process_settled.false)

pub returns : goal.returns
returns c = (
  (λ _ w wrote. c.loop-p.invariant w.process (omega (arith, c.loop-p-test.false, c.procs-p-end.ensures.procs, (written_within c.args.on.now.trace.now w c.args.read.cell c.args.read.value wrote).0)) w.at wrote),
  (λ _. refl),
)
