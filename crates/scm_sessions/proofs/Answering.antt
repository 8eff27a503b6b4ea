-- The answers to lines.
use Rattle.std.proofs.Common.{◌≡◌, ℕ, List, [], ◌∷◌, refl, sym, inl, inr, subst, Option, None, Some, append-nil, filter, true}
use Rattle.scm_sequences.specs.declared.refusal.Refusal.TheVariants.{BadLine, NoMemory}
use Rattle.scm_book.specs.declared.reply.Reply.{Reply}
use Rattle.scm_book.specs.declared.reply.Reply.TheVariants.{Refused}
use Rattle.scm_book.specs.Machine.{CallData, ReplyData, refused, reply_data}
use Rattle.scm_sessions.specs.declared.replies.Answer.{Answer}
use Rattle.scm_sessions.specs.Asking.{AskedData, nothing, bad, good, name_in}
use Rattle.scm_sessions.specs.Script.{reply_line, Exchange, exchange, has_reply, Answers}
use Rattle.scm_sessions.specs.inner.Answering.{AnswersWith}

asked_alone : (asked : AskedData) → has_reply asked ≡ true → asked ∷ [] ≡ filter has_reply (asked ∷ [])
asked_alone asked some = rw some refl

without_memory : {S : Type 0} (Calls : S → List ℕ → CallData → ReplyData → S → Type 0) (old : S) (asked : AskedData) (name : List ℕ) → name_in asked ≡ Some name
    → (has_reply asked ≡ true) × Answers Calls old asked (refused NoMemory) old
without_memory Calls old nothing name asks = absurd (cc)
without_memory Calls old (bad n) name asks = (refl, (inr refl, refl))
without_memory Calls old (good n call) name asks = (refl, inr (refl, refl))

-- the answer that is this reply under this name
abbrev answered : Option (List ℕ) → Reply → Option Answer
answered name reply = Some (record { name = name; reply = reply })

module _ {S : Type 0} {Calls : S → List ℕ → CallData → ReplyData → S → Type 0} where
  -- a line that asks nothing has no reply
  pub AnswersWith-nothing : (old : S) → AnswersWith Calls old nothing None old
  AnswersWith-nothing old = record { line = record { exchanges = []; all = refl; lead = refl; replied = refl }; replies = refl }

  -- a line that has a reply
  AnswersWith-some : (old : S) (asked : AskedData) (reply : Reply) (new : S) → has_reply asked ≡ true
      → Answers Calls old asked (reply_data reply) new → AnswersWith Calls old asked (answered (name_in asked) reply) new
  AnswersWith-some old asked reply new some answers = record {
    line = record {
      exchanges = exchange asked (reply_data reply) ∷ [];
      all = asked_alone asked some;
      lead = (new, answers, refl);
      replied = sym (append-nil (reply_line (name_in asked) (reply_data reply)));
    };
    replies = refl;
  }

  -- a bad line is refused for that
  pub AnswersWith-bad : (old : S) (name : Option (List ℕ)) → AnswersWith Calls old (bad name) (answered name (Refused BadLine)) old
  AnswersWith-bad old name = AnswersWith-some old (bad name) (Refused BadLine) old refl (inl refl, refl)

  -- the call of a good line is answered
  pub AnswersWith-good : (old : S) (name : List ℕ) (call : CallData) (reply : Reply) (new : S)
      → Answers Calls old (good name call) (reply_data reply) new → AnswersWith Calls old (good name call) (answered (Some name) reply) new
  AnswersWith-good old name call reply new answers = AnswersWith-some old (good name call) reply new refl answers

  -- memory was refused for what a line asks
  pub AnswersWith-unread : (old : S) (asked : AskedData) (name : List ℕ) → name_in asked ≡ Some name
      → AnswersWith Calls old asked (answered (Some name) (Refused NoMemory)) old
  AnswersWith-unread old asked name asks =
      let without = without_memory Calls old asked name asks in
      let P : Option (List ℕ) → Type 0 = λ n. AnswersWith Calls old asked (answered n (Refused NoMemory)) old in
      subst P asks (AnswersWith-some old asked (Refused NoMemory) old without.0 without.1)
