use Rattle.std.proofs.Common.{◌<◌, ◌∙◌, length, arith}
use Rattle.std.proofs.lemmas.Bool.Decides.{nat_tests}
use Rattle.std.proofs.lemmas.Result.{err_from_is_err_and}
use Rattle.scm_book.proofs.Declaring.{add_all-added, add_all-ended, are_bad_cells-all_added, Refuses-declared}
use Rattle.scm_book.proofs.declarations.declare_cells.Goals as goal

pub returns-in_err-add-clause-err : goal.returns-in_err-add-clause-err
returns-in_err-add-clause-err c =
    let p = err_from_is_err_and c.from_residual.result c.from_residual.ensures.1 in
    rw (p.1, p.2) (Refuses-declared c.loop-decl.cells c.args.decls.now c.loop-decl.decl-index c.decl-item.result _ c.loop-decl-test.true c.decl-item.is c.loop-decl.invariant c.in_err-add.ensures.refused)

pub loop-decl-preserved : goal.loop-decl-preserved
loop-decl-preserved c =
    add_all-added c.loop-decl.cells c.add.new.self c.args.decls.now c.loop-decl.decl-index c.decl-item.result c.loop-decl-test.true c.decl-item.is c.in_ok-add.ensures.added.0 c.in_ok-add.ensures.added.1
    ∙ c.loop-decl.invariant

pub returns-clause-ok : goal.returns-clause-ok
returns-clause-ok c =
    let some : 0 < length c.args.decls.now = grind (arith, nat_tests, c.if-is_empty.ensures) in
    are_bad_cells-all_added c.args.decls.now c.loop-decl.cells some (add_all-ended c.loop-decl.cells c.args.decls.now c.loop-decl.decl-index c.loop-decl-test.false c.loop-decl.invariant)
