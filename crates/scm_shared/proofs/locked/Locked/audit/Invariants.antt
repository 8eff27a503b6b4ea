use Rattle.std.proofs.Common.{◌≡◌, ◌+◌, ◌≤◌, [], length, sum_by}
use Rattle.scm_sequences.specs.declared.limits.TheConstants.{MOST_SESSIONS}
use Rattle.scm_shared.specs.inner.Rule.{keeper}
use Rattle.scm_shared.proofs.locked.Locked.audit.Given as goal

-- the passes so far joined the book's seat, and their shares are together
abbrev pub invariant-loop-pass : goal.invariant-loop-pass
invariant-loop-pass g l =
    (l.seat.table_id ≡ g.B.BookNaming.table)
    × (l.seat.me ≡ (keeper l.book.journal l.entered l.yielded, []))
    × (l.all.parts + l.entered ≡ MOST_SESSIONS + 1 + length l.yielded)
    × (l.all.amount ≡ sum_by (λ pass. length pass.made) l.yielded)
    × (l.calls ≡ l.all.amount)
    × (l.made.total ≡ length l.book.journal)
    × (l.all.parts ≤ MOST_SESSIONS + 1)
