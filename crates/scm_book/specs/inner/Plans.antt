-- What is found of a call before it is made: the reply of a known schedule, a question that is lent, or neither.
use Rattle.std.specs.Prelude.{ℕ, ◌≡◌, ⊤, Option, None, Some, IfSome}
use Rattle.scm_book.specs.declared.plan.Outlook.{Outlook}
use Rattle.scm_book.specs.declared.plan.Outlook.TheVariants.{Unknown, Near, Known}
use Rattle.scm_book.specs.declared.plan.Plan.{Plan}
use Rattle.scm_book.specs.declared.plan.Plan.TheVariants.{Ready, Waits, Long}
use Rattle.scm_book.specs.Machine.{CallData, asks, asks_why, ReplyData, consistent, reply_data, Machine, TraceState, question_cause, IsAbout, InTrace, Fits}
use Rattle.scm_book.specs.inner.Loans.{Loaned}

-- the reply has a schedule
abbrev pub HasSchedule : ReplyData → Type 0
HasSchedule (consistent schedule fixed) = ⊤
HasSchedule reply = ⊥

-- the reply is a legal schedule of the trace that a question with this mark is about, if there is such a trace
pub record IsExplained (state : TraceState) (mark : Option ℕ) (reply : ReplyData) : Type 0 where
  pub there : question_cause state mark ≡ None
  pub schedule : HasSchedule reply
  pub fits : IsAbout state mark (λ t. Fits state.cells t state.budget reply)

-- the call asks a question, and the reply is a legal schedule of what it is about, as the machine stands
abbrev pub IsKnownReply : Machine → CallData → ReplyData → Type 0
IsKnownReply machine (asks name mark) reply = InTrace machine name (λ state. IsExplained state mark reply)
IsKnownReply machine (asks_why name mark) reply = InTrace machine name (λ state. IsExplained state mark reply)
IsKnownReply machine call reply = ⊥

-- the same of a reply that may be carried
abbrev pub IsKnown : Machine → CallData → Option ReplyData → Type 0
IsKnown machine call known = IfSome known (λ reply. IsKnownReply machine call reply)

-- the reply that is known, if one is
abbrev pub known_reply : Outlook → Option ReplyData
known_reply Unknown = None
known_reply Near = None
known_reply (Known reply) = Some (reply_data reply)

-- the reply that a plan carries, if it does
abbrev pub reply_in : Plan → Option ReplyData
reply_in (Ready outlook) = known_reply outlook
reply_in Waits = None
reply_in (Long loan) = None

-- the loan that it carries, if it does
abbrev pub loan_in : Plan → Option Loaned
loan_in (Ready outlook) = None
loan_in Waits = None
loan_in (Long loan) = Some loan
