-- The machine's operations on two numbers are those bit by bit.
use Rattle.std.proofs.Common.{◌∙◌}
use Rattle.std.proofs.lemmas.Nat.{or_lt, xor_lt}
use Rattle.scm_cells.specs.Numbers.{bits_of}
use Rattle.scm_amo.proofs.Bits.{and_result, or_result, xor_result}
use Rattle.scm_amo.proofs.results.apply.Goals as goal

pub returns-in-And-W-clause-value : goal.returns-in-And-W-clause-value
returns-in-And-W-clause-value c =
    c.from-in-And-W.ensures ∙ and_result _ _ _ _ c.in-And-W.is-0 c.requires.old_in_width c.requires.operand_in_width

pub returns-in-And-D-clause-value : goal.returns-in-And-D-clause-value
returns-in-And-D-clause-value c =
    c.from-in-And-D.ensures ∙ and_result _ _ _ _ c.in-And-D.is-0 c.requires.old_in_width c.requires.operand_in_width

pub returns-in-Or-W-clause-value : goal.returns-in-Or-W-clause-value
returns-in-Or-W-clause-value c =
    c.from-in-Or-W.ensures ∙ or_result _ _ _ _ c.in-Or-W.is-0 c.requires.old_in_width c.requires.operand_in_width

pub returns-in-Or-D-clause-value : goal.returns-in-Or-D-clause-value
returns-in-Or-D-clause-value c =
    c.from-in-Or-D.ensures ∙ or_result _ _ _ _ c.in-Or-D.is-0 c.requires.old_in_width c.requires.operand_in_width

pub returns-in-Or-D-clause-in_width : goal.returns-in-Or-D-clause-in_width
returns-in-Or-D-clause-in_width c =
    rw c.from-in-Or-D.ensures (or_lt (bits_of c.args.width) _ _ c.requires.old_in_width c.requires.operand_in_width)

pub returns-in-Xor-W-clause-value : goal.returns-in-Xor-W-clause-value
returns-in-Xor-W-clause-value c =
    c.from-in-Xor-W.ensures ∙ xor_result _ _ _ _ c.in-Xor-W.is-0 c.requires.old_in_width c.requires.operand_in_width

pub returns-in-Xor-D-clause-value : goal.returns-in-Xor-D-clause-value
returns-in-Xor-D-clause-value c =
    c.from-in-Xor-D.ensures ∙ xor_result _ _ _ _ c.in-Xor-D.is-0 c.requires.old_in_width c.requires.operand_in_width

pub returns-in-Xor-D-clause-in_width : goal.returns-in-Xor-D-clause-in_width
returns-in-Xor-D-clause-in_width c =
    rw c.from-in-Xor-D.ensures (xor_lt (bits_of c.args.width) _ _ c.requires.old_in_width c.requires.operand_in_width)
