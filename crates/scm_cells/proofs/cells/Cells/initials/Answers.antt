use Rattle.std.proofs.Common.{sym, ◌∙◌}
use Rattle.scm_cells.proofs.CellMaps.{initials_of-cells_in}
use Rattle.scm_cells.proofs.cells.Cells.initials.Goals as goal

pub returns : goal.returns
returns c =
    rw (← c.self.view_is) (c.in_ok-collect_initials.ensures ∙ sym (initials_of-cells_in c.self.inside.cells.entries))
