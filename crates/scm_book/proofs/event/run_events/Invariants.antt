use Rattle.std.proofs.Common.{length, map}
use Rattle.std.specs.Vec.{vec_capacity}
use Rattle.scm_book.specs.Machine.{reply_data}
use Rattle.scm_book.specs.Events.{event_data}
use Rattle.scm_book.proofs.Answered.{HasAnswered}
use Rattle.scm_book.proofs.event.run_events.Given as goal

-- the events so far are answered
abbrev pub invariant-loop-event : goal.invariant-loop-event
invariant-loop-event l =
    HasAnswered l.fn.book (map event_data l.yielded) (map reply_data l.replies.items) l.book (length l.fn.events.items) (vec_capacity l.replies)
