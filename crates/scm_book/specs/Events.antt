-- A list of events, and what a book answers to it: one reply to each call, in order.
use Rattle.std.specs.Prelude.{ℕ, ◌≡◌, List, [], ◌∷◌, Option, None, Some, if◌then◌else◌}
use Rattle.scm_results.specs.declared.results.Results.{Results}
use Rattle.scm_expand.specs.declared.task.Task.{Task}
use Rattle.scm_expand.specs.Outcomes.{Expanded}
use Rattle.scm_book.specs.declared.event.Event.{Event}
use Rattle.scm_book.specs.declared.event.Event.TheVariants.{CallBy, Take, Deliver, Lend, LendWork, TakeBack}
use Rattle.scm_book.specs.Machine.{CallData, ReplyData, call_data}
use Rattle.scm_book.specs.Journal.{Answered, BookState, makes_entry, IsCall}
use Rattle.scm_book.specs.inner.Workers.{IsTaking, IsDelivery}
use Rattle.scm_book.specs.inner.Loans.{Loaned, IsLending, IsLendingForWork, IsTakingBack}

pub data EventData : Type 0 where
  -- a session and its call
  call_by : ℕ → CallData → EventData
  -- a worker takes at most so many tasks
  takes : ℕ → EventData
  -- outcomes are delivered
  delivers : List Expanded → EventData
  -- the question that a call asks is lent
  lends : CallData → EventData
  -- a set is lent for work
  lends_work : EventData
  -- what was lent comes back
  takes_back : Loaned → EventData

abbrev pub event_data : Event → EventData
event_data (CallBy session call) = call_by session (call_data call)
event_data (Take n) = takes n
event_data (Deliver outcomes) = delivers outcomes.items
event_data (Lend call) = lends (call_data call)
event_data LendWork = lends_work
event_data (TakeBack loan) = takes_back loan

-- an event leads from old to new: a call with its reply, what is taken, delivered, lent and taken back with none
abbrev pub IsAnswered : BookState → EventData → Option ReplyData → BookState → Type 0
IsAnswered old (call_by session call) (Some reply) new = IsCall old session call reply new
IsAnswered old (call_by session call) None new = ⊥
IsAnswered old (takes n) None new = (given : Option (List Task)) × IsTaking old n given new
IsAnswered old (delivers outcomes) None new = (delivered : Results) × IsDelivery old outcomes delivered new
IsAnswered old (lends call) None new = (lent : Option Loaned) × IsLending old call lent new
IsAnswered old lends_work None new = (lent : Option Loaned) × IsLendingForWork old lent new
IsAnswered old (takes_back loan) None new = IsTakingBack old loan new
IsAnswered old event (Some reply) new = ⊥

-- the replies, with this one first if it is one
abbrev pub with_reply : Option ReplyData → List ReplyData → List ReplyData
with_reply None replies = replies
with_reply (Some reply) replies = reply ∷ replies

-- the events lead from old to new with these replies
abbrev pub AnswersAll : BookState → List EventData → List ReplyData → BookState → Type 0
AnswersAll old [] replies new = (replies ≡ []) × (new ≡ old)
AnswersAll old (event ∷ events) replies new =
    (mid : BookState) × (reply : Option ReplyData) × (others : List ReplyData)
    × IsAnswered old event reply mid × AnswersAll mid events others new × (replies ≡ with_reply reply others)

-- the calls and replies that are steps of the machine: all but those refused for want of memory or for a full journal
abbrev pub steps_of : List EventData → List ReplyData → List Answered
steps_of [] replies = []
steps_of (call_by session call ∷ events) [] = []
steps_of (call_by session call ∷ events) (reply ∷ replies) =
    if makes_entry reply then record { session = session; call = call; reply = reply } ∷ steps_of events replies
    else steps_of events replies
steps_of (event ∷ events) replies = steps_of events replies
