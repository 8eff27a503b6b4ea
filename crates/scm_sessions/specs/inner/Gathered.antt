-- What the sessions of a run in groups make: each has a pass of its own, or none. This project's profile.
use Rattle.std.specs.Prelude.{ℕ, ◌≡◌, List, [], ◌∷◌, ◌++◌, if◌then◌else◌, Option, None, Some}
use Rattle.std.specs.Option.{option_map}
use Rattle.scm_book.specs.Machine.{CallData, ReplyData}
use Rattle.scm_shared.specs.Passes.{Known}
use Rattle.scm_sessions.specs.Asking.{AskedData, good}
use Rattle.scm_sessions.specs.inner.SharedRuns.{FitsAsked, became_entry}

-- the calls that a session with this pass made and that became entries, with their replies
abbrev pub made_in : Option Known → List (CallData × ReplyData)
made_in None = []
made_in (Some pass) = pass.made

abbrev pub pass_number : Option Known → Option ℕ
pass_number pass = option_map (λ pass. pass.number) pass

-- the call of a line, where it became an entry, with the reply written for it
abbrev pub entry_for : AskedData → ReplyData → List (CallData × ReplyData)
entry_for (good name call) reply = if became_entry reply then (call, reply) ∷ [] else []
entry_for asked reply = []

-- what a line asks of a session leads from old to new with this reply: where it became an entry, it stands last among those that
-- the session made
pub record AnswersIn (old : Option Known) (asked : AskedData) (reply : ReplyData) (new : Option Known) : Type 0 where
  pub fit : FitsAsked asked reply
  pub made : made_in new ≡ made_in old ++ entry_for asked reply
  pub number : pass_number new ≡ pass_number old
