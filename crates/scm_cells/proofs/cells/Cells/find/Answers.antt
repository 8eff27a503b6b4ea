use Rattle.std.proofs.Common.{sym, ◌∙◌}
use Rattle.scm_cells.proofs.CellMaps.{cell_named-cells_in}
use Rattle.scm_cells.proofs.cells.Cells.find.Goals as goal

pub returns-in_err-place : goal.returns-in_err-place
returns-in_err-place c =
    rw (← c.self.view_is, cell_named-cells_in c.self.inside.cells.entries c.args.name.now) (c.from_residual.ensures ∙ sym c.in_err-place.was ∙ c.get_index_of.ensures.index)

pub returns : goal.returns
returns c =
    rw (← c.self.view_is, cell_named-cells_in c.self.inside.cells.entries c.args.name.now) (sym c.in_ok-place.was ∙ c.get_index_of.ensures.index)
