use Rattle.std.proofs.Common.{◌≤◌, sum, take}
use Rattle.scm_book.proofs.known_schedules.operations_in.Given as goal

-- no more than the lengths so far
abbrev pub invariant-loop-p : goal.invariant-loop-p
invariant-loop-p l = l.operations ≤ sum (take l.p l.lengths)
