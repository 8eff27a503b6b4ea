use Rattle.std.proofs.Common.{◌⊎◌, IsSomeAnd, ⊎_elim}
use Rattle.scm_orders.specs.Refuting.{RulesOut, HasBy}
use Rattle.scm_orders.specs.Facts.{fact_at}
use Rattle.scm_orders.proofs.PlaceLaws.{none_is}
use Rattle.scm_orders.proofs.HintLaws.{any_parted}
use Rattle.scm_orders.proofs.candidates.is_settled_by_hint.Goals as goal

pub returns-in-None : goal.returns-in-None
returns-in-None c = (
  (λ f. absurd (cc f)),
  (λ some. absurd (⊎_elim (λ later. none_is (c.in_default.ensures.settles.1 later)) (λ sooner. none_is (c.in-None.ensures.settles.1 sooner))
      (any_parted (λ hint. IsSomeAnd (fact_at c.args.on.now.earlier.now hint) (λ fact. RulesOut c.args.on.now.trace.now fact c.args.read c.args.write ⊎ HasBy c.args.left fact c.args.write)) c.min-start.result c.args.on.now.hints.now some))),
)
