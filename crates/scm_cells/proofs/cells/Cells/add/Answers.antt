use Rattle.std.proofs.Common.{◌≡◌, true, false, is_some, arith, inl, refl, sym, ◌∙◌}
use Rattle.indexmap.specs.IndexMap.{get_by}
use Rattle.scm_cells.specs.CellLists.{name_eq}
use Rattle.scm_cells.specs.laws.CellLaws.{AreCells-add}
use Rattle.scm_cells.proofs.CellMaps.{OnOk-at, add_refusal-full, add_refusal-taken, add_refusal-None, cells_in-insert}
use Rattle.scm_cells.proofs.cells.Cells.add.Goals as goal
use Rattle.scm_cells.proofs.cells.Cells.add.Goals.{then-is_taken-via-then-is_taken, then-is_taken-via-else-is_taken+then-place-ge-MOST_CELLS}

pub returns-then-is_taken-clause-refused : goal.returns-then-is_taken-clause-refused
returns-then-is_taken-clause-refused c =
    let m = c.self.inside.cells in
    elim c.then-is_taken.branch [
      | then-is_taken-via-then-is_taken w ↦
          let taken : is_some (get_by (name_eq c.args.name) m) ≡ true = cc in
          inl (add_refusal-taken m _ c.self.view_is c.args.name c.args.width c.args.initial taken)
      | then-is_taken-via-else-is_taken+then-place-ge-MOST_CELLS w ↦
          inl (add_refusal-full m _ c.self.view_is c.args.name c.args.width c.args.initial (omega arith))
    ]

pub invariant_of-self-2 : goal.invariant_of-self-2
invariant_of-self-2 c =
    let m = c.self.inside.cells in
    let absent : is_some (get_by (name_eq c.args.name) m) ≡ false = cc in
    let inserted = OnOk-at c.insert.result c.insert.ensures.entries c.in_ok-map_err.ensures.variant in
    let fitted = sym c.first_contents.ensures ∙ c.in-Ok.is in
    let none = add_refusal-None m _ refl c.args.name c.args.width c.args.initial (omega arith) absent _ c.in-Ok.initial fitted in
    let added = cells_in-insert m _ refl c.args.name c.args.width c.args.initial (omega arith) absent _ c.in-Ok.initial fitted _ inserted in
    AreCells-add _ _ c.args.name c.args.width c.args.initial c.self.invariant none added

pub returns-clause-added : goal.returns-clause-added
returns-clause-added c =
    let m = c.self.inside.cells in
    let absent : is_some (get_by (name_eq c.args.name) m) ≡ false = cc in
    let inserted = OnOk-at c.insert.result c.insert.ensures.entries c.in_ok-map_err.ensures.variant in
    let fitted = sym c.first_contents.ensures ∙ c.in-Ok.is in
    let none = add_refusal-None m _ c.self.view_is c.args.name c.args.width c.args.initial (omega arith) absent _ c.in-Ok.initial fitted in
    let added = cells_in-insert m _ c.self.view_is c.args.name c.args.width c.args.initial (omega arith) absent _ c.in-Ok.initial fitted _ inserted in
    (none, added)
