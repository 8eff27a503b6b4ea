use Rattle.std.proofs.Common.{sym, arith}
use Rattle.std.proofs.lemmas.List.{get_or_past}
use Rattle.scm_orders.proofs.cut_trace.length_of.Goals as goal

pub returns-else-p-procs : goal.returns-else-p-procs
returns-else-p-procs c = sym (get_or_past c.args.lengths.now c.args.p 0 (omega (arith, c.procs.ensures.procs, c.if-p-procs.false)))
