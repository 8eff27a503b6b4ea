use Rattle.std.proofs.Common.{◌≡◌, [], drop}
use Rattle.scm_book.proofs.Declaring.{add_all}
use Rattle.scm_book.proofs.declarations.declare_cells.Given as goal

-- what is left to add gives the same as all
abbrev pub invariant-loop-decl : goal.invariant-loop-decl
invariant-loop-decl l = add_all l.cells (drop l.decl-index l.decls) ≡ add_all [] l.decls
