use Rattle.std.proofs.Common.{◌↔◌, drop}
use Rattle.scm_orders.specs.Facts.{Leads}
use Rattle.scm_orders.proofs.showing.leads.Given as goal

abbrev pub invariant-loop-hint : goal.invariant-loop-hint
invariant-loop-hint l = Leads l.earlier (drop l.hint-index l.hints) l.reached l.to ↔ Leads l.earlier l.hints l.fn.from l.to
