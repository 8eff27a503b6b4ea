-- The sessions of a run in groups: each group of lines is a job, with the pass of its session, if it has one. This project's
-- profile.
use Rattle.std.specs.Prelude.{ℕ, ◌≡◌, ◌⊎◌, ◌+◌, ⊤, List, [], ◌∷◌, ◌++◌, fold, map, flat_map, Bool, true, false, Option, None, Some}
use Rattle.std.specs.List.{list_any}
use Rattle.scm_book.specs.Machine.{CallData, ReplyData}
use Rattle.scm_shared.specs.Passes.{Known, newcomer}
use Rattle.scm_sessions.specs.declared.findings.Findings.{Findings}
use Rattle.scm_sessions.specs.Asking.{AskedData, good}
use Rattle.scm_sessions.specs.Script.{Exchange, reply_line}
use Rattle.scm_sessions.specs.inner.Numbered.{Numbered, numbered}
use Rattle.scm_sessions.specs.inner.Findings.{replies_of, unanswered, found_in, with_findings}
use Rattle.scm_sessions.specs.inner.SharedRuns.{AllFit}
use Rattle.scm_sessions.specs.inner.Groups.{GroupData}
use Rattle.scm_sessions.specs.inner.Gathered.{made_in, pass_number, entry_for}

pub record JobData : Type 0 where
  -- the name of the group, None for lines without one
  pub name : Option (List ℕ)
  -- those of its lines that have no reply yet, in order
  pub lines : List Numbered
  -- the pass of its session, where that entered
  pub pass : Option Known
  -- the replies to its lines, in order
  pub replies : List ReplyData
  -- what they say
  pub found : Findings

abbrev pub job : Option (List ℕ) → List Numbered → Option Known → List ReplyData → Findings → JobData
job name lines pass replies found = record { name = name; lines = lines; pass = pass; replies = replies; found = found }

-- ---- how jobs begin

abbrev pub is_call : AskedData → Bool
is_call (good name call) = true
is_call asked = false

abbrev pub begun : GroupData → Option Known → JobData
begun group pass = job group.name group.lines pass [] (unanswered 0)

-- the group has a call, and entered with this number
pub record HasEntered (number : ℕ) (group : GroupData) (begins : JobData) : Type 0 where
  pub calls : list_any (λ line. is_call line.asked) group.lines ≡ true
  pub begins_so : begins ≡ begun group (Some (newcomer number))

-- these are the jobs of the groups: each has no pass, or the next one from this number on
abbrev pub AreBegun : ℕ → List GroupData → List JobData → Type 0
AreBegun number [] [] = ⊤
AreBegun number (group ∷ groups) (first ∷ jobs) =
    ((first ≡ begun group None) × AreBegun number groups jobs) ⊎ (HasEntered number group first × AreBegun (number + 1) groups jobs)
AreBegun number groups jobs = ⊥

-- ---- how jobs go on

-- the calls of these exchanges that became entries, with their replies
abbrev pub entries_for : List Exchange → List (CallData × ReplyData)
entries_for exchanges = flat_map (λ e. entry_for e.asked e.reply) exchanges

-- the lines of exchanges, each with its number
abbrev pub lines_in : List (ℕ × Exchange) → List Numbered
lines_in answered = map (λ a. numbered a.0 a.1.asked) answered

abbrev pub exchanges_in : List (ℕ × Exchange) → List Exchange
exchanges_in answered = map (λ a. a.1) answered

-- the replies of exchanges, each with the number of its line
abbrev pub replies_in : List (ℕ × Exchange) → List (ℕ × ReplyData)
replies_in answered = map (λ a. (a.0, a.1.reply)) answered

-- the next lines of a job were answered, as these exchanges say
pub record AnsweredLines (old new : JobData) : Type 0 where
  pub answered : List (ℕ × Exchange)
  pub name : new.name ≡ old.name
  pub lines : old.lines ≡ lines_in answered ++ new.lines
  pub replies : new.replies ≡ old.replies ++ replies_of (exchanges_in answered)
  pub found : new.found ≡ with_findings old.found (found_in (replies_in answered))
  pub fit : AllFit (exchanges_in answered)
  pub made : made_in new.pass ≡ made_in old.pass ++ entries_for (exchanges_in answered)
  pub number : pass_number new.pass ≡ pass_number old.pass

-- all lines of a job were answered
pub record AnsweredWhole (old new : JobData) : Type 0 where
  pub answered : AnsweredLines old new
  pub ended : new.lines ≡ []

-- all lines of these jobs were answered
abbrev pub AllAnswered : List JobData → List JobData → Type 0
AllAnswered [] [] = ⊤
AllAnswered (old ∷ olds) (new ∷ news) = AnsweredWhole old new × AllAnswered olds news
AllAnswered olds news = ⊥

-- what was found, with what the replies of these jobs say
abbrev pub with_jobs : Findings → List JobData → Findings
with_jobs found jobs = fold (λ f job. with_findings f job.found) found jobs

-- ---- what is written of jobs, and what they give to the audit

-- the replies of a job, each in its line
abbrev pub job_text : JobData → List ℕ
job_text job = flat_map (λ reply. reply_line job.name reply) job.replies

abbrev pub jobs_text : List JobData → List ℕ
jobs_text jobs = flat_map job_text jobs

-- the names with a pass, and their passes, one job after the other
abbrev pub names_in : Option (List ℕ) → Option Known → List (List ℕ)
names_in (Some name) (Some pass) = name ∷ []
names_in name pass = []

abbrev pub passes_in : Option (List ℕ) → Option Known → List Known
passes_in (Some name) (Some pass) = pass ∷ []
passes_in name pass = []

abbrev pub entered_names : List JobData → List (List ℕ)
entered_names jobs = flat_map (λ job. names_in job.name job.pass) jobs

abbrev pub entered_passes : List JobData → List Known
entered_passes jobs = flat_map (λ job. passes_in job.name job.pass) jobs
