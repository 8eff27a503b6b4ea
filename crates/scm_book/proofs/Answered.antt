-- A list of events is answered event by event, and the replies to its calls are a run of the machine.
use Rattle.std.proofs.Common.{◌≡◌, ◌≤◌, ℕ, Bool, true, false, cond, List, [], ◌∷◌, ◌++◌, length, Option, None, Some, MatchOption, refl, sym, ap, ◌∙◌, subst, arith}
use Rattle.std.proofs.lemmas.List.{length-append}
use Rattle.scm_expand.specs.Outcomes.{Expanded}
use Rattle.scm_book.specs.Machine.{ReplyData, CallData}
use Rattle.scm_book.specs.Journal.{Answered, IsRun, BookState, makes_entry, IsUnchanged}
use Rattle.scm_book.specs.inner.Loans.{Loaned, IsLent, IsLentForWork}
use Rattle.scm_book.specs.Events.{EventData, call_by, takes, delivers, lends, lends_work, takes_back, IsAnswered, with_reply, AnswersAll, steps_of}

with_reply-append : (reply : Option ReplyData) (replies more : List ReplyData) → with_reply reply replies ++ more ≡ with_reply reply (replies ++ more)
with_reply-append None replies more = refl
with_reply-append (Some reply) replies more = refl

-- an event adds at most one reply
with_reply-length : (reply : Option ReplyData) → length (with_reply reply []) ≤ 1
with_reply-length None = omega arith
with_reply-length (Some reply) = omega arith

-- one more event is answered
pub AnswersAll-more : (old mid new : BookState) (events : List EventData) (replies : List ReplyData) (event : EventData) (reply : Option ReplyData) → AnswersAll old events replies mid → IsAnswered mid event reply new
    → AnswersAll old (events ++ event ∷ []) (replies ++ with_reply reply []) new
AnswersAll-more old mid new [] replies event reply answers answered =
    (new, reply, [], subst (λ b. IsAnswered b event reply new) answers.1 answered, (refl, refl), ap (λ rs. rs ++ with_reply reply []) answers.0)
AnswersAll-more old mid new (first ∷ events) replies event reply answers answered = (
  answers.0,
  answers.1,
  answers.2 ++ with_reply reply [],
  answers.3,
  AnswersAll-more answers.0 mid new events answers.2 event reply answers.4 answered,
  ap (λ rs. rs ++ with_reply reply []) answers.5 ∙ with_reply-append answers.1 answers.2 (with_reply reply []),
)

-- a loan leaves journal and machine as they were, whether a set was lent or not
lent-unchanged : (old new : BookState) (lent : Option Loaned) (Lent : Loaned → Type 0) → ((q : Loaned) → Lent q → IsUnchanged old new) → MatchOption lent (new ≡ old) Lent → IsUnchanged old new
lent-unchanged old new None Lent unchanged same = record { journal = ap (λ (b : BookState). b.journal) same; machine = ap (λ (b : BookState). b.machine) same }
lent-unchanged old new (Some q) Lent unchanged lent = unchanged q lent

-- an event that is no call gets no reply, and the run goes on from the same machine
module _ (old mid new : BookState) (events : List EventData) (replies others : List ReplyData) where
  idle-run : (event : EventData) → IsUnchanged old mid → steps_of (event ∷ events) replies ≡ steps_of events replies → replies ≡ others → IsRun mid.machine (steps_of events others) new.machine → IsRun old.machine (steps_of (event ∷ events) replies) new.machine
  idle-run event unchanged skipped are rest =
      subst (λ steps. IsRun old.machine steps new.machine) (sym (skipped ∙ ap (steps_of events) are)) (subst (λ m. IsRun m (steps_of events others) new.machine) unchanged.machine rest)

  taken-run : (n : ℕ) (reply : Option ReplyData) → IsAnswered old (takes n) reply mid → replies ≡ with_reply reply others → IsRun mid.machine (steps_of events others) new.machine → IsRun old.machine (steps_of (takes n ∷ events) replies) new.machine
  taken-run n None answered are rest = idle-run (takes n) answered.1.unchanged refl are rest
  taken-run n (Some reply) answered are rest = absurd answered

  delivered-run : (outcomes : List Expanded) (reply : Option ReplyData) → IsAnswered old (delivers outcomes) reply mid → replies ≡ with_reply reply others → IsRun mid.machine (steps_of events others) new.machine → IsRun old.machine (steps_of (delivers outcomes ∷ events) replies) new.machine
  delivered-run outcomes None answered are rest = idle-run (delivers outcomes) answered.1.unchanged refl are rest
  delivered-run outcomes (Some reply) answered are rest = absurd answered

  lent-run : (call : CallData) (reply : Option ReplyData) → IsAnswered old (lends call) reply mid → replies ≡ with_reply reply others → IsRun mid.machine (steps_of events others) new.machine → IsRun old.machine (steps_of (lends call ∷ events) replies) new.machine
  lent-run call None answered are rest = idle-run (lends call) (lent-unchanged old mid answered.0 (λ q. IsLent old call q mid) (λ q lent. lent.unchanged) answered.1) refl are rest
  lent-run call (Some reply) answered are rest = absurd answered

  lent_work-run : (reply : Option ReplyData) → IsAnswered old lends_work reply mid → replies ≡ with_reply reply others → IsRun mid.machine (steps_of events others) new.machine → IsRun old.machine (steps_of (lends_work ∷ events) replies) new.machine
  lent_work-run None answered are rest = idle-run lends_work (lent-unchanged old mid answered.0 (λ q. IsLentForWork old q mid) (λ q lent. lent.unchanged) answered.1) refl are rest
  lent_work-run (Some reply) answered are rest = absurd answered

  taken_back-run : (loan : Loaned) (reply : Option ReplyData) → IsAnswered old (takes_back loan) reply mid → replies ≡ with_reply reply others → IsRun mid.machine (steps_of events others) new.machine → IsRun old.machine (steps_of (takes_back loan ∷ events) replies) new.machine
  taken_back-run loan None answered are rest = idle-run (takes_back loan) answered.unchanged refl are rest
  taken_back-run loan (Some reply) answered are rest = absurd answered

-- a call is a step of the machine where its reply makes an entry
module _ (old mid new : BookState) (session : ℕ) (call : CallData) (events : List EventData) (replies others : List ReplyData) where
  called-run : (reply : Option ReplyData) → IsAnswered old (call_by session call) reply mid → replies ≡ with_reply reply others → IsRun mid.machine (steps_of events others) new.machine
      → IsRun old.machine (steps_of (call_by session call ∷ events) replies) new.machine
  called-run None answered are rest = absurd answered
  called-run (Some reply) answered are rest =
      subst (λ rs. IsRun old.machine (steps_of (call_by session call ∷ events) rs) new.machine) (sym are) (by (makes_entry reply) refl) where
        this : Answered
        this = record { session = session; call = call; reply = reply }

        by : (b : Bool) → makes_entry reply ≡ b → IsRun old.machine (cond b (this ∷ steps_of events others) (steps_of events others)) new.machine
        by true is = (mid.machine, answered.step is, rest)
        by false is = subst (λ m. IsRun m (steps_of events others) new.machine) (answered.unchanged is).machine rest

-- the replies that make entries are a run of the machine
pub steps_of-run : (old new : BookState) (events : List EventData) (replies : List ReplyData) → AnswersAll old events replies new → IsRun old.machine (steps_of events replies) new.machine
steps_of-run old new [] replies answers = ap (λ (b : BookState). b.machine) answers.1
steps_of-run old new (call_by session call ∷ events) replies answers =
    called-run old answers.0 new session call events replies answers.2 answers.1 answers.3 answers.5 (steps_of-run answers.0 new events answers.2 answers.4)
steps_of-run old new (takes n ∷ events) replies answers =
    taken-run old answers.0 new events replies answers.2 n answers.1 answers.3 answers.5 (steps_of-run answers.0 new events answers.2 answers.4)
steps_of-run old new (delivers outcomes ∷ events) replies answers =
    delivered-run old answers.0 new events replies answers.2 outcomes answers.1 answers.3 answers.5 (steps_of-run answers.0 new events answers.2 answers.4)
steps_of-run old new (lends call ∷ events) replies answers =
    lent-run old answers.0 new events replies answers.2 call answers.1 answers.3 answers.5 (steps_of-run answers.0 new events answers.2 answers.4)
steps_of-run old new (lends_work ∷ events) replies answers =
    lent_work-run old answers.0 new events replies answers.2 answers.1 answers.3 answers.5 (steps_of-run answers.0 new events answers.2 answers.4)
steps_of-run old new (takes_back loan ∷ events) replies answers =
    taken_back-run old answers.0 new events replies answers.2 loan answers.1 answers.3 answers.5 (steps_of-run answers.0 new events answers.2 answers.4)

-- what was answered so far, with room for a reply to each event
pub record HasAnswered (old : BookState) (events : List EventData) (replies : List ReplyData) (new : BookState) (all room : ℕ) : Type 0 where
  pub run : AnswersAll old events replies new
  pub at_most : length replies ≤ length events
  pub enough : all ≤ room

module _ (old mid new : BookState) (events : List EventData) (replies : List ReplyData) (event : EventData) (reply : Option ReplyData) (all room more_room : ℕ) where
  pub HasAnswered-more : HasAnswered old events replies mid all room → IsAnswered mid event reply new → room ≤ more_room
      → HasAnswered old (events ++ event ∷ []) (replies ++ with_reply reply []) new all more_room
  HasAnswered-more had answered more = record {
    run = AnswersAll-more old mid new events replies event reply had.run answered;
    at_most = let fewer : length replies ≤ length events = had.at_most in
        let one : length (with_reply reply []) ≤ 1 = with_reply-length reply in omega (arith, length-append replies (with_reply reply []), length-append events (event ∷ []), fewer, one);
    enough = let enough : all ≤ room = had.enough in omega arith;
  }
