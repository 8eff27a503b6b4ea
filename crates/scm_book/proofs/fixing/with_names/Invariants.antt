use Rattle.std.proofs.Common.{◌≡◌, take}
use Rattle.scm_book.specs.Machine.{named_values}
use Rattle.scm_book.proofs.fixing.with_names.Given as goal

-- the values below the index have their names
abbrev pub invariant-loop-value : goal.invariant-loop-value
invariant-loop-value l = l.named.items ≡ named_values l.cells (take l.value-index l.values)
