-- Groups of lines begin to run, and their lines are answered one after the other.
use Rattle.std.proofs.Common.{◌≡◌, ◌⊎◌, ℕ, suc, ◌+◌, ◌<◌, ◌||◌, List, [], ◌∷◌, ◌++◌, length, refl, inl, inr, sym, ap, ap₂, ◌∙◌, subst, arith, append-nil, append_assoc, Bool, true, Option, None, Some, map, All, IfSome, slice_index_or}
use Rattle.std.specs.List.{list_any}
use Rattle.std.specs.Option.{option_map_or}
use Rattle.std.proofs.lemmas.List.{map-append}
use Rattle.std.proofs.lemmas.List.Elements.{All-nil, All-cons, All-append}
use Rattle.std.proofs.lemmas.Grind.{flat_map-append}
use Rattle.scm_book.specs.declared.reply.Reply.{Reply}
use Rattle.scm_book.specs.Machine.{CallData, ReplyData, reply_data}
use Rattle.scm_shared.specs.Passes.{Known, newcomer}
use Rattle.scm_sessions.specs.declared.numbered.NumberedLine.{NumberedLine}
use Rattle.scm_sessions.specs.declared.findings.Findings.{Findings}
use Rattle.scm_sessions.specs.Asking.{asked_data}
use Rattle.scm_sessions.specs.Script.{Exchange, exchange, has_reply}
use Rattle.scm_sessions.specs.inner.Numbered.{Numbered, numbered, line_data}
use Rattle.scm_sessions.specs.inner.Findings.{replies_of, unanswered, found_in, with_findings}
use Rattle.scm_sessions.specs.inner.SharedRuns.{FitsAsked, AllFit}
use Rattle.scm_sessions.specs.inner.Gathered.{made_in, entry_for, AnswersIn}
use Rattle.scm_sessions.specs.inner.Groups.{GroupData, group}
use Rattle.scm_sessions.proofs.Merging.{with_none, with_both}
use Rattle.scm_sessions.specs.inner.Jobs.{JobData, job, begun, is_call, AreBegun, HasEntered, entries_for, lines_in, exchanges_in, replies_in, AnsweredLines, AnsweredWhole, AllAnswered}

-- ---- one line more

-- no line was answered yet
pub AnsweredLines-none : (of : JobData) → AnsweredLines of of
AnsweredLines-none of = record {
  answered = [];
  name = refl;
  lines = refl;
  replies = sym (append-nil of.replies);
  found = sym (with_none of.found);
  fit = All-nil (λ (e : Exchange). FitsAsked e.asked e.reply);
  made = sym (append-nil (made_in of.pass));
  number = refl;
}

-- more lines were answered
pub AnsweredLines-more : {a b c : JobData} → AnsweredLines a b → AnsweredLines b c → AnsweredLines a c
AnsweredLines-more {a} {b} {c} one other =
    let es : List Exchange = exchanges_in one.answered in
    let more : List Exchange = exchanges_in other.answered in
    let both : exchanges_in (one.answered ++ other.answered) ≡ es ++ more = map-append (λ (a : ℕ × Exchange). a.1) one.answered other.answered in
    record {
      answered = one.answered ++ other.answered;
      name = other.name ∙ one.name;
      lines = one.lines ∙ ap (λ (l : List Numbered). lines_in one.answered ++ l) other.lines
          ∙ sym (append_assoc (lines_in one.answered) (lines_in other.answered) c.lines)
          ∙ ap (λ (l : List Numbered). l ++ c.lines) (sym (map-append (λ (a : ℕ × Exchange). numbered a.0 a.1.asked) one.answered other.answered));
      replies = other.replies ∙ ap (λ (l : List ReplyData). l ++ replies_of more) one.replies
          ∙ append_assoc a.replies (replies_of es) (replies_of more)
          ∙ ap (λ (l : List ReplyData). a.replies ++ l) (sym (map-append (λ (e : Exchange). e.reply) es more))
          ∙ ap (λ (l : List Exchange). a.replies ++ replies_of l) (sym both);
      found = other.found ∙ ap (λ (f : Findings). with_findings f (found_in (replies_in other.answered))) one.found
          ∙ with_both a.found (replies_in one.answered) (replies_in other.answered)
          ∙ ap (λ (l : List (ℕ × ReplyData)). with_findings a.found (found_in l))
          (sym (map-append (λ (a : ℕ × Exchange). (a.0, a.1.reply)) one.answered other.answered));
      fit = subst AllFit (sym both) (All-append (λ (e : Exchange). FitsAsked e.asked e.reply) es more one.fit other.fit);
      made = other.made ∙ ap (λ (l : List (CallData × ReplyData)). l ++ entries_for more) one.made
          ∙ append_assoc (made_in a.pass) (entries_for es) (entries_for more)
          ∙ ap (λ (l : List (CallData × ReplyData)). made_in a.pass ++ l)
          (sym (flat_map-append (λ (e : Exchange). entry_for e.asked e.reply) es more))
          ∙ ap (λ (l : List Exchange). made_in a.pass ++ entries_for l) (sym both);
      number = other.number ∙ one.number;
    }

-- a line leaves the queue and its reply is put last
pub answered_next : (name : Option (List ℕ)) (lines later : List NumberedLine) (line : NumberedLine) (pass after : Option Known)
    (replies now : List Reply) (reply : Reply) (found more : Findings) (old : JobData)
    → job name (map line_data lines) pass (map reply_data replies) found ≡ old
    → lines ≡ line ∷ later → now ≡ replies ++ reply ∷ [] → AnswersIn pass (asked_data line.asked) (reply_data reply) after
    → more ≡ with_findings found (found_in ((line.number, reply_data reply) ∷ []))
    → AnsweredLines old (job name (map line_data later) after (map reply_data now) more) × (length (map line_data later) < length old.lines)
answered_next name lines later line pass after replies now reply found more old is front grown answers finds =
    let left : JobData = job name (map line_data later) after (map reply_data now) more in
    subst (λ (o : JobData). AnsweredLines o left × (length (map line_data later) < length o.lines)) is (answered, fewer) where
      answered : AnsweredLines (job name (map line_data lines) pass (map reply_data replies) found) (job name (map line_data later) after (map reply_data now) more)
      answered = record {
        answered = (line.number, exchange (asked_data line.asked) (reply_data reply)) ∷ [];
        name = refl;
        lines = ap (map line_data) front;
        replies = ap (map reply_data) grown ∙ map-append reply_data replies (reply ∷ []);
        found = finds;
        fit = All-cons (λ (e : Exchange). FitsAsked e.asked e.reply) (exchange (asked_data line.asked) (reply_data reply)) [] answers.fit
            (All-nil (λ (e : Exchange). FitsAsked e.asked e.reply));
        made = answers.made ∙ ap (λ (l : List (CallData × ReplyData)). made_in pass ++ l)
            (sym (append-nil (entry_for (asked_data line.asked) (reply_data reply))));
        number = answers.number;
      }

      fewer : length (map line_data later) < length (map line_data lines)
      fewer = let long : length (map line_data lines) ≡ suc (length (map line_data later)) = ap (λ (l : List NumberedLine). length (map line_data l)) front in omega arith

-- the line that leaves the queue has a reply, where all of them do
pub first_replied : (name : Option (List ℕ)) (lines later : List NumberedLine) (line : NumberedLine) (pass : Option Known) (replies : List ReplyData)
    (found : Findings) (old : JobData) → job name (map line_data lines) pass replies found ≡ old → lines ≡ line ∷ later
    → All (λ line. has_reply line.asked ≡ true) old.lines → has_reply (asked_data line.asked) ≡ true
first_replied name lines later line pass replies found old is front all =
    let here : old.lines ≡ line_data line ∷ map line_data later = sym (ap (λ (j : JobData). j.lines) is) ∙ ap (map line_data) front in
    subst (All (λ (l : Numbered). has_reply l.asked ≡ true)) here all 0 (line_data line) (omega arith)

-- what is left of lines that have replies has replies
pub replied_rest : {a b : JobData} → AnsweredLines a b → All (λ line. has_reply line.asked ≡ true) a.lines → All (λ line. has_reply line.asked ≡ true) b.lines
replied_rest {a} {b} answered all =
    rest (lines_in answered.answered) b.lines (subst (All (λ (l : Numbered). has_reply l.asked ≡ true)) answered.lines all) where
      rest : (front back : List Numbered) → All (λ line. has_reply line.asked ≡ true) (front ++ back) → All (λ line. has_reply line.asked ≡ true) back
      rest [] back each = each
      rest (first ∷ front) back each = rest front back (λ k d below. each (suc k) d (omega arith))

-- ---- all groups

-- the group that a thread was given, and what it left of it
pub one_answered : (old new given left : JobData) → given ≡ old → left ≡ new → AnsweredWhole given left → AnsweredWhole old new
one_answered old new given left same is answered =
    subst (λ (n : JobData). AnsweredWhole old n) is (subst (λ (o : JobData). AnsweredWhole o left) same answered)

pub all_answered : (olds news : List JobData) → length news ≡ length olds
    → ((i : ℕ) (d : JobData) → i < length olds → AnsweredWhole (slice_index_or olds i d) (slice_index_or news i d)) → AllAnswered olds news
all_answered [] [] same each = tt
all_answered [] (new ∷ news) same each = absurd (omega arith)
all_answered (old ∷ olds) [] same each = absurd (omega arith)
all_answered (old ∷ olds) (new ∷ news) same each =
    (each 0 old (omega arith), all_answered olds news (omega arith) (λ i d below. each (suc i) d (omega arith)))

-- ---- how groups begin

pub list_any-map : {X Y : Type 0} (test : Y → Bool) (change : X → Y) (xs : List X) → list_any test (map change xs) ≡ list_any (λ x. test (change x)) xs
list_any-map test change [] = refl
list_any-map test change (x ∷ xs) = ap (λ b. test (change x) || b) (list_any-map test change xs)

module _ (number : ℕ) (name : Option (List ℕ)) (lines : List NumberedLine) (replies : List Reply) (found : Findings) (of : GroupData)
    (is : group name (map line_data lines) ≡ of) (empty : replies ≡ []) (nothing : found ≡ unanswered 0) where
  -- this job, with this pass
  abbrev now : Option Known → JobData
  now pass = job name (map line_data lines) pass (map reply_data replies) found

  -- it has no reply yet
  starts : (pass : Option Known) → now pass ≡ begun of pass
  starts pass =
      ap₂ (λ (rs : List Reply) (f : Findings). job name (map line_data lines) pass (map reply_data rs) f) empty nothing
      ∙ ap (λ (g : GroupData). begun g pass) is

  -- it has no pass
  pub begins_without : (pass : Option Known) → pass ≡ None → (now pass ≡ begun of None) ⊎ HasEntered number of (now pass)
  begins_without pass none = inl (ap now none ∙ starts None)

  -- it has a call, and perhaps a pass
  pub begins_with : (pass entered : Option Known) (calls : Bool) → calls ≡ list_any (λ line. is_call (line_data line).asked) lines → calls ≡ true → pass ≡ entered
      → IfSome entered (λ p. p ≡ newcomer number) → (now pass ≡ begun of None) ⊎ HasEntered number of (now pass)
  begins_with pass None calls found is_so same new = begins_without pass same
  begins_with pass (Some p) calls found is_so same new =
      inr (record {
        calls = ap (λ (g : GroupData). list_any (λ (line : Numbered). is_call line.asked) g.lines) (sym is)
            ∙ list_any-map (λ (line : Numbered). is_call line.asked) line_data lines ∙ sym found ∙ is_so;
        begins_so = ap now (same ∙ ap (λ (k : Known). Some k) new) ∙ starts (Some (newcomer number));
      })

-- the number of the next pass after a job with this pass, or with none
abbrev pub number_past : Option Known → ℕ → ℕ
number_past pass number = option_map_or (λ (p : Known). p.number + 1) pass number

-- the number of the next pass after these jobs
abbrev pub number_after : List JobData → ℕ → ℕ
number_after [] number = number
number_after (first ∷ jobs) number = number_after jobs (number_past first.pass number)

number_after-last : (jobs : List JobData) (last : JobData) (number : ℕ) → number_after (jobs ++ last ∷ []) number ≡ number_past last.pass (number_after jobs number)
number_after-last [] last number = refl
number_after-last (first ∷ jobs) last number = number_after-last jobs last (number_past first.pass number)

AreBegun-last : (number : ℕ) (groups : List GroupData) (jobs : List JobData) (group : GroupData) (last : JobData) → AreBegun number groups jobs
    → (last ≡ begun group None) ⊎ HasEntered (number_after jobs number) group last → AreBegun number (groups ++ group ∷ []) (jobs ++ last ∷ [])
AreBegun-last number [] [] group last begin (inl is) = inl (is, tt)
AreBegun-last number [] [] group last begin (inr enters) = inr (enters, tt)
AreBegun-last number [] (first ∷ jobs) group last begin more = absurd begin
AreBegun-last number (g ∷ groups) [] group last begin more = absurd begin
AreBegun-last number (g ∷ groups) (first ∷ jobs) group last (inl begin) more =
    let same : number_past first.pass number ≡ number = ap (λ (j : JobData). number_past j.pass number) begin.0 in
    inl (
      begin.0,
      AreBegun-last number groups jobs group last begin.1
          (subst (λ (n : ℕ). (last ≡ begun group None) ⊎ HasEntered (number_after jobs n) group last) same more),
    )
AreBegun-last number (g ∷ groups) (first ∷ jobs) group last (inr begin) more =
    let next : number_past first.pass number ≡ number + 1 = ap (λ (j : JobData). number_past j.pass number) begin.0.begins_so in
    inr (
      begin.0,
      AreBegun-last (number + 1) groups jobs group last begin.1
          (subst (λ (n : ℕ). (last ≡ begun group None) ⊎ HasEntered (number_after jobs n) group last) next more),
    )

-- these are the jobs of the groups so far, and the next pass has this number
pub record HaveBegun (groups : List GroupData) (jobs : List JobData) (number : ℕ) : Type 0 where
  pub begun_so : AreBegun 0 groups jobs
  pub number_is : number ≡ number_after jobs 0

-- one more begins
pub HaveBegun-more : {groups : List GroupData} {jobs : List JobData} {number : ℕ} → HaveBegun groups jobs number → (group : GroupData) (last : JobData) (now : List JobData) (next : ℕ)
    → (last ≡ begun group None) ⊎ HasEntered number group last → next ≡ number_past last.pass number → now ≡ jobs ++ last ∷ []
    → HaveBegun (groups ++ group ∷ []) now next
HaveBegun-more {groups} {jobs} {number} had group last now next more is grown = record {
  begun_so = subst (AreBegun 0 (groups ++ group ∷ [])) (sym grown) (AreBegun-last 0 groups jobs group last had.begun_so
      (subst (λ (n : ℕ). (last ≡ begun group None) ⊎ HasEntered n group last) had.number_is more));
  number_is = is ∙ ap (number_past last.pass) had.number_is ∙ sym (number_after-last jobs last 0) ∙ ap (λ (js : List JobData). number_after js 0) (sym grown);
}
