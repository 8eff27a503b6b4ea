-- The sessions of a run over a shared book: what the run's passes say that they made. This project's profile.
use Rattle.std.specs.Prelude.{ℕ, ◌≡◌, ◌≢◌, ◌+◌, ⊤, List, [], ◌∷◌, ◌++◌, length, slice_get, Option}
use Rattle.std.specs.Option.{option_map_or}
use Rattle.scm_sequences.specs.declared.refusal.Refusal.TheVariants.{BadLine}
use Rattle.scm_book.specs.Machine.{CallData, ReplyData, refused}
use Rattle.scm_shared.specs.Passes.{Known}
use Rattle.scm_sessions.specs.Asking.{good}
use Rattle.scm_sessions.specs.Script.{session_of, LeadTo}
use Rattle.scm_sessions.specs.inner.SharedRuns.{entry_in}
use Rattle.scm_sessions.specs.declared.findings.Findings.{Findings}
use Rattle.scm_sessions.specs.inner.Findings.{FindsWhole}

pub record Callers : Type 0 where
  -- the entered names, in the order of their entry
  pub names : List (List ℕ)
  -- the pass of each
  pub passes : List Known

abbrev pub callers : List (List ℕ) → List Known → Callers
callers names passes = record { names = names; passes = passes }

-- these passes have the numbers from this one on
abbrev pub AreNumberedFrom : ℕ → List Known → Type 0
AreNumberedFrom number [] = ⊤
AreNumberedFrom number (pass ∷ others) = (pass.number ≡ number) × AreNumberedFrom (number + 1) others

-- the calls that the session of this name made and that became entries, with their replies: none where the name didn't enter
abbrev pub made_by : Callers → List ℕ → List (CallData × ReplyData)
made_by callers name = option_map_or (λ pass. pass.made) (slice_get callers.passes (session_of callers.names name)) []

-- a call of the session of this name leads from old to new with this reply, which isn't that of a bad line: where it became an
-- entry, it stands last among those that the session made, and nothing else changed in what the sessions made
pub record MakesCall (old : Callers) (name : List ℕ) (call : CallData) (reply : ReplyData) (new : Callers) : Type 0 where
  pub reply_is : reply ≢ refused BadLine
  pub made : (other : List ℕ) → made_by new other ≡ made_by old other ++ entry_in other (good name call) reply

-- the whole script was run, from no sessions to these names and passes, a pass for each name and in the order of the names,
-- with these findings
pub record RunsCallers (script left written after : Option (List ℕ)) (names : List (List ℕ)) (passes : List Known) (found : Findings) : Type 0 where
  pub finds : FindsWhole script left written after (λ exchanges. LeadTo MakesCall (callers [] []) exchanges (callers names passes)) found
  pub each : length passes ≡ length names
  pub numbered : AreNumberedFrom 0 passes
