use Rattle.std.proofs.Common.{◌≡◌, ◌+◌, ◌≤◌, length, sum_by}
use Rattle.scm_results.specs.Totals.{delivered_of}
use Rattle.scm_results.specs.declared.naming.TheConstants.{MOST_TALLIES}
use Rattle.scm_results.proofs.totals.Totals.settle.Given as goal

abbrev pub invariant-loop-tally : goal.invariant-loop-tally
invariant-loop-tally g l =
    (l.taken.total ≡ l.results.taken)
    × (l.delivered.total ≡ delivered_of l.results)
    × (l.all_of_taken.parts + l.fn.self.given ≡ MOST_TALLIES + 1 + length l.yielded)
    × (l.all_of_delivered.parts + l.fn.self.given ≡ MOST_TALLIES + 1 + length l.yielded)
    × (l.all_of_taken.parts ≤ MOST_TALLIES + 1)
    × (l.all_of_taken.amount ≡ l.taken_sum)
    × (l.all_of_delivered.amount ≡ l.delivered_sum)
    × (l.taken_sum ≡ sum_by (λ t. t.taken) l.yielded)
    × (l.delivered_sum ≡ sum_by (λ t. t.delivered) l.yielded)
