-- What a run in groups did to a script and to a writer.
use Rattle.std.proofs.Common.{◌≡◌, ◌⊎◌, ℕ, suc, ◌+◌, List, [], ◌∷◌, ◌++◌, length, take, drop, refl, inl, inr, sym, ap, ap₂, ◌∙◌, subst, Option, Bool, true, false, flat_map, All, IsTrue}
use Rattle.std.proofs.Math.Seq.{take-append_seam}
use Rattle.std.proofs.lemmas.List.Elements.{All-nil, All-cons}
use Rattle.std.specs.Io.KnownBytes.{Consumes, Appends, IsAtEnd}
use Rattle.scm_book.specs.Machine.{EntryData}
use Rattle.scm_shared.specs.Passes.{Known}
use Rattle.scm_shared.specs.inner.Audits.{Agree}
use Rattle.scm_sessions.specs.declared.ended.Ended.{Ended}
use Rattle.scm_sessions.specs.Asking.{Line, lines_of, whole_lines_of}
use Rattle.scm_sessions.specs.declared.findings.Findings.{Findings}
use Rattle.scm_sessions.specs.Script.{Exchange, has_reply, asked_of, AppendsPart}
use Rattle.scm_sessions.specs.inner.Numbered.{Numbered, numbered_in, all_asked}
use Rattle.scm_sessions.specs.inner.Findings.{unanswered, found_in, with_findings}
use Rattle.scm_sessions.specs.inner.Callers.{callers, AreNumberedFrom, made_by}
use Rattle.scm_sessions.specs.inner.SharedRuns.{AllFit, IsSharedRun}
use Rattle.scm_sessions.specs.inner.JournalText.{AreNamed}
use Rattle.scm_sessions.specs.inner.Groups.{GroupData, groups_of, grouped, GroupsWhole, GroupsWholeLines}
use Rattle.scm_sessions.specs.inner.Jobs.{JobData, AreBegun, AllAnswered, jobs_text, entered_names, entered_passes, with_jobs, lines_in, replies_in}
use Rattle.scm_sessions.specs.inner.EachRuns.{group_findings_of, FindsGroups, RunsGroupsWholeLines, RunsGroupsPart}
use Rattle.scm_sessions.proofs.Sharing.{agreed_by, covered_named}
use Rattle.scm_sessions.proofs.GroupNames.{AreOf, AreApart, groups_apart}
use Rattle.scm_sessions.proofs.Merging.{asked_lines, found_grouped}
use Rattle.scm_sessions.proofs.GroupAnswers.{HasAnswered, HasAnswered-from}

-- ---- what was read

-- a script was read, or a part of it, and these are the groups of its lines
pub record ReadGroups (script left : Option (List ℕ)) (groups : List GroupData) : Type 0 where
  pub bytes : List ℕ
  pub lines : List Line
  pub consumed : Consumes script left bytes
  pub lines_are : (lines ≡ whole_lines_of bytes) ⊎ (IsAtEnd left × (lines ≡ lines_of bytes))
  pub are : groups ≡ groups_of (numbered_in lines)

pub ReadGroups-whole : {script left : Option (List ℕ)} {groups : List GroupData} {found : Findings} → GroupsWhole script left groups found → ReadGroups script left groups
ReadGroups-whole read = record {
  bytes = read.bytes;
  lines = lines_of read.bytes;
  consumed = read.consumed;
  lines_are = inr (read.ended, refl);
  are = read.grouped;
}

pub ReadGroups-lines : {script left : Option (List ℕ)} {groups : List GroupData} → GroupsWholeLines script left groups → ReadGroups script left groups
ReadGroups-lines read = record {
  bytes = read.bytes;
  lines = whole_lines_of read.bytes;
  consumed = read.consumed;
  lines_are = inl refl;
  are = read.grouped;
}

-- whether a read failed or not
pub ReadGroups-read : {script left : Option (List ℕ)} {groups : List GroupData} {found : Findings} (failed : Bool)
    → (failed ≡ false → GroupsWhole script left groups found)
    → (failed ≡ true → GroupsWholeLines script left groups) → ReadGroups script left groups
ReadGroups-read false whole part = ReadGroups-whole (whole refl)
ReadGroups-read true whole part = ReadGroups-lines (part refl)

-- ---- what is asked of the jobs has a reply

All-of : (name : Option (List ℕ)) (lines : List Numbered) → AreOf name (all_asked lines) → All (λ line. has_reply line.asked ≡ true) lines
All-of name [] are = All-nil (λ (l : Numbered). has_reply l.asked ≡ true)
All-of name (l ∷ lines) are = All-cons (λ (l : Numbered). has_reply l.asked ≡ true) l lines are.0 (All-of name lines are.2)

-- each line of this job has a reply
abbrev pub HasReplies : JobData → Type 0
HasReplies job = All (λ line. has_reply line.asked ≡ true) job.lines

All-begun : (number : ℕ) (groups : List GroupData) (jobs : List JobData) → AreApart groups → AreBegun number groups jobs → All HasReplies jobs
All-begun number [] [] apart begin = All-nil HasReplies
All-begun number [] (job ∷ jobs) apart begin = absurd begin
All-begun number (g ∷ groups) [] apart begin = absurd begin
All-begun number (g ∷ groups) (job ∷ jobs) apart (inl begin) =
    let lines : job.lines ≡ g.lines = ap (λ (j : JobData). j.lines) begin.0 in
    All-cons HasReplies job jobs (subst (All (λ (l : Numbered). has_reply l.asked ≡ true)) (sym lines) (All-of g.name g.lines apart.0))
    (All-begun number groups jobs apart.2 begin.1)
All-begun number (g ∷ groups) (job ∷ jobs) apart (inr begin) =
    let lines : job.lines ≡ g.lines = ap (λ (j : JobData). j.lines) begin.0.begins_so in
    All-cons HasReplies job jobs (subst (All (λ (l : Numbered). has_reply l.asked ≡ true)) (sym lines) (All-of g.name g.lines apart.0))
    (All-begun (number + 1) groups jobs apart.2 begin.1)

apart_of : {script left : Option (List ℕ)} {groups : List GroupData} → ReadGroups script left groups → AreApart groups
apart_of read = subst AreApart (sym read.are) (groups_apart read.lines)

pub begun_reply : {script left : Option (List ℕ)} {groups : List GroupData} (begins : List JobData) → ReadGroups script left groups → AreBegun 0 groups begins
    → All HasReplies begins
begun_reply {script} {left} {groups} begins read begin = All-begun 0 groups begins (apart_of read) begin

-- ---- what was answered and written

module _ {groups : List GroupData} {number : ℕ} {jobs : List JobData} (lines : List Line) (are : groups ≡ groups_of (numbered_in lines))
    (had : HasAnswered number groups jobs) where
  lines_are : lines_in had.answered ≡ grouped (numbered_in lines)
  lines_are = had.lines ∙ ap (λ (gs : List GroupData). flat_map (λ group. group.lines) gs) are

  asked_are : asked_of had.exchanges ≡ all_asked (grouped (numbered_in lines))
  asked_are = ap asked_of (sym had.these) ∙ asked_lines had.answered ∙ ap all_asked lines_are

  found_are : (counted found : Findings) → counted ≡ unanswered (length lines) → found ≡ with_jobs counted jobs
      → found ≡ group_findings_of lines had.exchanges
  found_are counted found count is =
      found_grouped lines had.exchanges had.answered found had.these lines_are
      (is ∙ had.found counted ∙ ap (λ (f : Findings). with_findings f (found_in (replies_in had.answered))) count)

module _ {script left : Option (List ℕ)} {groups : List GroupData} (begins jobs : List JobData) (begin : AreBegun 0 groups begins) (answered : AllAnswered begins jobs) where
  has : ReadGroups script left groups → HasAnswered 0 groups jobs
  has read = HasAnswered-from 0 groups begins jobs (apart_of read) begin answered

  -- the script was read to its end, and the replies were written
  pub FindsGroups-shared : {written after : Option (List ℕ)} {counted : Findings} (ended : Ended) (passes : List Known) (found : Findings)
      → GroupsWhole script left groups counted → Appends written after (jobs_text jobs) → ended.names.items ≡ entered_names jobs
      → passes ≡ entered_passes jobs → (IsTrue ended.audit.agreed → Agree passes ended.audit.book.journal)
      → found ≡ with_jobs counted jobs → FindsGroups script left written after (IsSharedRun ended) found
  FindsGroups-shared {written} {after} {counted} ended passes found whole wrote names are agrees finds =
      let had = has (ReadGroups-whole whole) in
      let numbered : AreNumberedFrom 0 passes = subst (AreNumberedFrom 0) (sym are) had.numbered in
      record {
        runs = record {
          bytes = whole.bytes;
          exchanges = had.exchanges;
          consumed = whole.consumed;
          ended = whole.ended;
          asked = asked_are (lines_of whole.bytes) whole.grouped had;
          appended = subst (Appends written after) had.text wrote;
          run = record {
            fit = had.fit;
            entries = λ agreed name.
                had.made name ∙ sym (ap₂ (λ (ns : List (List ℕ)) (ps : List Known). made_by (callers ns ps) name) names are)
                ∙ agreed_by ended.names.items passes ended.audit.book.journal name numbered (agrees agreed);
          };
        };
        found_is = found_are (lines_of whole.bytes) whole.grouped had counted found whole.counted finds;
      }

  -- each entry is of a session that has a name
  pub groups_named : (names : List (List ℕ)) (passes : List Known) (journal : List EntryData) → ReadGroups script left groups
      → names ≡ entered_names jobs → passes ≡ entered_passes jobs → Agree passes journal → AreNamed names journal
  groups_named names passes journal read is_names are agree =
      let had = has read in
      let each : length passes ≡ length names = ap length are ∙ had.each ∙ ap length (sym is_names) in
      covered_named names passes journal each (subst (AreNumberedFrom 0) (sym are) had.numbered) agree.0

  -- a read failed, and the replies to the lines before it were written
  pub RunsGroupsWholeLines-fit : {written after : Option (List ℕ)} → GroupsWholeLines script left groups → Appends written after (jobs_text jobs)
      → RunsGroupsWholeLines script left written after AllFit
  RunsGroupsWholeLines-fit {written} {after} part wrote =
      let had = has (ReadGroups-lines part) in
      record {
        bytes = part.bytes;
        exchanges = had.exchanges;
        consumed = part.consumed;
        asked = asked_are (whole_lines_of part.bytes) part.grouped had;
        appended = subst (Appends written after) had.text wrote;
        run = had.fit;
      }

  -- a write failed
  pub RunsGroupsPart-fit : {written after : Option (List ℕ)} → ReadGroups script left groups → AppendsPart written after (jobs_text jobs)
      → RunsGroupsPart script left written after AllFit
  RunsGroupsPart-fit {written} {after} read wrote =
      let had = has read in
      record {
        bytes = read.bytes;
        lines = read.lines;
        exchanges = had.exchanges;
        consumed = read.consumed;
        lines_are = read.lines_are;
        asked = asked_are read.lines read.are had;
        appended = subst (AppendsPart written after) had.text wrote;
        run = had.fit;
      }

-- ---- a list of jobs that was answered in place

pub answered_length : (olds news : List JobData) → AllAnswered olds news → length news ≡ length olds
answered_length [] [] answered = refl
answered_length [] (new ∷ news) answered = absurd answered
answered_length (old ∷ olds) [] answered = absurd answered
answered_length (old ∷ olds) (new ∷ news) answered = ap suc (answered_length olds news answered.1)

pub answered_back : (count : ℕ) (items olds news : List JobData) → length olds ≡ count → AllAnswered olds news
    → take count (news ++ drop (length news) items) ≡ news
answered_back count items olds news is answered =
    ap (λ (n : ℕ). take n (news ++ drop (length news) items)) (sym (answered_length olds news answered ∙ is))
    ∙ take-append_seam news (drop (length news) items)
