use Rattle.std.proofs.Common.{◌≡◌, List, [], ◌∷◌, ◌++◌, length, map, map-id, sym, subst, rules}
use Rattle.std.specs.Option.{option_map}
use Rattle.std.specs.Vec.{vec_capacity}
use Rattle.std.proofs.lemmas.List.{map-append}
use Rattle.std.proofs.lemmas.Iterator.Consumers.{YieldsList-end}
use Rattle.std.proofs.lemmas.Iterator.Adapters.{YieldsList-from_vec}
use Rattle.scm_book.specs.Machine.{ReplyData, reply_data}
use Rattle.scm_book.specs.Events.{EventData, event_data, AnswersAll}
use Rattle.scm_book.proofs.Answered.{HasAnswered, HasAnswered-more, steps_of-run}
use Rattle.scm_book.proofs.event.run_events.Goals as goal

pub loop-event-preserved : goal.loop-event-preserved
loop-event-preserved c =
    let events : map event_data (c.loop-event.yielded ++ c.in-Some.event ∷ []) ≡ map event_data c.loop-event.yielded ++ event_data c.in-Some.event ∷ [] =
    map-append event_data c.loop-event.yielded _ in
    subst (λ (l : List EventData × List ReplyData). HasAnswered c.args.book l.0 l.1 c.answer.new.book (length c.args.events.items) (vec_capacity c.add_reply.new.replies)) (λ i. (sym events i, sym c.add_reply.ensures.items i))
    (HasAnswered-more c.args.book c.loop-event.book c.answer.new.book (map event_data c.loop-event.yielded) (map reply_data c.loop-event.replies.items) (event_data c.in-Some.event) (option_map reply_data c.answer.result) _
    (vec_capacity c.loop-event.replies) _ c.loop-event.invariant c.answer.ensures.answered c.add_reply.ensures.capacity)

pub returns-clause-machine : goal.returns-clause-machine
returns-clause-machine c =
    let end = YieldsList-end (YieldsList-from_vec {s = c.into_iter-event-iterator.result} c.args.events.items (search rules) (search rules))
    c.loop-event.yielded c.loop-event.event-iterator c.loop-event.yielded_by c.next.result c.next.new.self c.in-None.is c.next.ensures.steps in
    let run : AnswersAll c.args.book (map event_data c.args.events.items) (map reply_data c.loop-event.replies.items) c.loop-event.book = rw (← end.0, map-id) c.loop-event.invariant.run in
    steps_of-run c.args.book c.loop-event.book (map event_data c.args.events.items) (map reply_data c.loop-event.replies.items) run
