use Rattle.std.proofs.Common.{◌≡◌, map, take}
use Rattle.scm_book.specs.Machine.{shown_operation}
use Rattle.scm_book.proofs.showing.show_all.Given as goal

abbrev pub invariant-loop-op : goal.invariant-loop-op
invariant-loop-op l = l.shown.items ≡ map (shown_operation l.cells) (take l.op-index l.operations)
