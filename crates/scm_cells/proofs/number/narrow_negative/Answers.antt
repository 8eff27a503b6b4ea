use Rattle.std.proofs.Common.{◌+◌, ◌/◌, ◌≤◌, arith}
use Rattle.scm_cells.proofs.Narrowing.{value_of-negative}
use Rattle.scm_cells.proofs.number.narrow_negative.Goals as goal

pub returns : goal.returns
returns c =
    let fits : c.args.m ≤ c.max_value-2.result / 2 + 1 = omega arith in
    value_of-negative c.args.width c.args.m _ _ c.max_value-2.ensures fits (omega arith) c.wrapping_neg.ensures
