use Rattle.std.proofs.Common.{arith, rules}
use Rattle.scm_cells.proofs.Narrowing.{value_of-sign_extended}
use Rattle.scm_cells.proofs.number.narrow_plain.Goals as goal

pub returns-then-n-ge-LEAST_SIGN_EXTENDED : goal.returns-then-n-ge-LEAST_SIGN_EXTENDED
returns-then-n-ge-LEAST_SIGN_EXTENDED c =
    value_of-sign_extended c.args.width c.args.n _ c.max_value-then-n-ge-LEAST_SIGN_EXTENDED.ensures (search rules) (omega arith) c.if-n-ge-LEAST_SIGN_EXTENDED.true (omega arith)
