use Rattle.std.proofs.Common.{◌∙◌, reverse}
use Rattle.scm_book.proofs.FixedValues.{fixed_below}
use Rattle.scm_book.proofs.fixing.fixed_names.Goals as goal

pub with_names-requires : goal.with_names-requires
with_names-requires c =
    fixed_below c.args.cells.now c.args.sequences.now (reverse c.args.front.now) c.deref.result.now c.deref-2.result.now (c.deref.ensures.value ∙ c.in_ok-initials.ensures) (c.deref-2.ensures.value ∙ c.in_ok-values.ensures)
