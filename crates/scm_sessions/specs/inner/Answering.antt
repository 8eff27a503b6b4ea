-- What answering a line does to the state of a run.
use Rattle.std.specs.Prelude.{ℕ, ◌≡◌, List, [], ◌∷◌, filter, Option, None, Some}
use Rattle.scm_book.specs.Machine.{CallData, ReplyData, reply_data}
use Rattle.scm_sessions.specs.declared.replies.Answer.{Answer}
use Rattle.scm_sessions.specs.Asking.{AskedData}
use Rattle.scm_sessions.specs.Script.{answer_text, Exchange, has_reply, asked_of, replies_text, LeadTo}
use Rattle.scm_sessions.specs.inner.Findings.{replies_of}

-- a line that asks this leads from old to new, with this text as its reply, which is none where it asks nothing
pub record AnswersLine {S : Type 0} (Calls : S → List ℕ → CallData → ReplyData → S → Type 0) (old : S) (asked : AskedData) (text : List ℕ) (new : S) : Type 0 where
  pub exchanges : List Exchange
  pub all : asked_of exchanges ≡ filter has_reply (asked ∷ [])
  pub lead : LeadTo Calls old exchanges new
  pub replied : text ≡ replies_text exchanges

-- the reply of an answer, where there is one
abbrev pub answer_replies : Option Answer → List ReplyData
answer_replies None = []
answer_replies (Some answer) = reply_data answer.reply ∷ []

-- a line that asks this leads from old to new, with this answer
pub record AnswersWith {S : Type 0} (Calls : S → List ℕ → CallData → ReplyData → S → Type 0) (old : S) (asked : AskedData) (answer : Option Answer) (new : S) : Type 0 where
  pub line : AnswersLine Calls old asked (answer_text answer) new
  pub replies : replies_of line.exchanges ≡ answer_replies answer
