use Rattle.std.proofs.Common.{◌↔◌, drop, ◌+◌, sym, ◌∙◌, arith}
use Rattle.scm_orders.specs.Facts.{Leads, IsUpTo}
use Rattle.scm_orders.proofs.HintLaws.{leads_on, leads_none, leads_past, leads_end}
use Rattle.scm_orders.proofs.showing.leads.Goals as goal

pub loop-hint-init : goal.loop-hint-init
loop-hint-init c = ((λ leads. leads), (λ leads. leads))

pub returns-in_default : goal.returns-in_default
returns-in_default c = (
  (λ f. absurd (cc f)),
  (λ leads. absurd (leads_past c.args.earlier.now c.args.hints.now c.loop-hint.hint-index c.loop-hint.reached c.in-Some.next c.in-Some.after c.args.to c.loop-hint-test.true (sym c.order_at.ensures ∙ c.in-Some.is)
      (λ up. cc (c.is_up_to.ensures.1 up, c.if-is_up_to.false)) (c.loop-hint.invariant.1 leads))),
)

pub returns-in_default-2 : goal.returns-in_default-2
returns-in_default-2 c = (
  (λ f. absurd (cc f)),
  (λ leads. absurd (leads_none c.args.earlier.now c.args.hints.now c.loop-hint.hint-index c.loop-hint.reached c.args.to c.loop-hint-test.true (sym c.order_at.ensures ∙ c.in_default.is) (c.loop-hint.invariant.1 leads))),
)

pub loop-hint-preserved : goal.loop-hint-preserved
loop-hint-preserved c =
    let on : Leads c.args.earlier.now (drop c.loop-hint.hint-index c.args.hints.now) c.loop-hint.reached c.args.to ↔ Leads c.args.earlier.now (drop (c.loop-hint.hint-index + 1) c.args.hints.now) c.in-Some.after c.args.to =
    leads_on c.args.earlier.now c.args.hints.now c.loop-hint.hint-index c.loop-hint.reached c.in-Some.next c.in-Some.after c.args.to c.loop-hint-test.true (sym c.order_at.ensures ∙ c.in-Some.is) (c.is_up_to.ensures.0 c.if-is_up_to.true) in
    ((λ rest. c.loop-hint.invariant.0 (on.1 rest)), (λ leads. on.0 (c.loop-hint.invariant.1 leads)))

pub returns : goal.returns
returns c =
    let end : Leads c.args.earlier.now (drop c.loop-hint.hint-index c.args.hints.now) c.loop-hint.reached c.args.to ↔ IsUpTo c.loop-hint.reached c.args.to =
    leads_end c.args.earlier.now c.args.hints.now c.loop-hint.hint-index c.loop-hint.reached c.args.to (omega (arith, c.loop-hint-test.false)) in
    ((λ yes. c.loop-hint.invariant.0 (end.1 (c.is_up_to-2.ensures.0 yes))), (λ leads. c.is_up_to-2.ensures.1 (end.0 (c.loop-hint.invariant.1 leads))))
