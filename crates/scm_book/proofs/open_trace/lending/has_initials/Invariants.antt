use Rattle.std.proofs.Common.{◌≡◌, take}
use Rattle.scm_cells.specs.CellLists.{initials_of}
use Rattle.scm_book.proofs.open_trace.lending.has_initials.Given as goal

-- the first cells hold this
abbrev pub invariant-loop-c : goal.invariant-loop-c
invariant-loop-c l = take l.c l.initials ≡ take l.c (initials_of l.cells)
