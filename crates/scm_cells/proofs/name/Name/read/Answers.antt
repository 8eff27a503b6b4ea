use Rattle.std.proofs.Common.{◌∙◌, sym}
use Rattle.std.proofs.Math.Seq.{take-append_seam}
use Rattle.scm_cells.proofs.PaddedNames.{IsPaddedName-zeros}
use Rattle.scm_cells.proofs.name.Name.read.Goals as goal

pub invariant_of-result : goal.invariant_of-result
invariant_of-result c = rw c.copy_from_slice.ensures.after (IsPaddedName-zeros _ (sym c.is_name.ensures ∙ c.if-not-is_name.false))

pub returns : goal.returns
returns c = (sym c.is_name.ensures ∙ c.if-not-is_name.false, rw c.copy_from_slice.ensures.after (take-append_seam _ _))
