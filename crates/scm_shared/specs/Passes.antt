-- What a pass knows of the shared book's history, and what a call, `front` and `meet` add to it.
use Rattle.std.specs.Prelude.{ℕ, ◌≡◌, ◌≢◌, ◌<◌, ◌≤◌, true, List, [], ◌∷◌, ◌++◌, length}
use mathlib.Core.List.{IsPrefix}
use Rattle.scm_sequences.specs.declared.limits.TheConstants.{MOST_ENTRIES}
use Rattle.scm_sequences.specs.declared.refusal.Refusal.TheVariants.{BadLine, JournalFull, NoMemory, TooManySessions}
use Rattle.scm_book.specs.Machine.{CallData, ReplyData, EntryData, refused}
use Rattle.scm_book.specs.Journal.{makes_entry, entered}
use Rattle.scm_book.specs.inner.Callers.{calls_by, IsHistory}

pub record Known : Type 0 where
  -- the session of the pass
  pub number : ℕ
  -- the calls of the pass that became entries, with their replies, in order
  pub made : List (CallData × ReplyData)
  -- the history that the pass has seen
  pub seen : List EntryData
  -- a length that the history has reached, no less than what was seen
  pub front : ℕ

abbrev pub known : ℕ → List (CallData × ReplyData) → List EntryData → ℕ → Known
known number made seen front = record { number = number; made = made; seen = seen; front = front }

-- a new pass: nothing made and nothing seen
abbrev pub newcomer : ℕ → Known
newcomer number = known number [] [] 0

-- the same pass, which was told that the history has this length
abbrev pub at_front : ℕ → Known → Known
at_front found pass = known pass.number pass.made pass.seen found

-- the pass knows that the journal of its book has reached this length: what a pass was told is never more, as each audit finds
abbrev pub HasReached : Known → ℕ → Type 0
HasReached pass n = n ≤ pass.front

-- the pass made a call. It has seen a legal history that ends with the call and its reply. This history begins with all that
-- the pass had seen, is longer than it was told, and has of its session just the calls that the pass made
pub record Extended (old : Known) (call : CallData) (reply : ReplyData) (new : Known) : Type 0 where
  pub between : List EntryData
  pub seen : new.seen ≡ entered (old.seen ++ between) old.number call reply
  pub legal : IsHistory new.seen
  pub longer : old.front < length new.seen
  pub front : new.front ≡ length new.seen
  pub number : new.number ≡ old.number
  pub made : new.made ≡ old.made ++ (call, reply) ∷ []
  pub own : calls_by new.number new.seen ≡ new.made

-- the pass has seen a full journal: a legal history that begins with all that it had seen
pub record SeenFull (old new : Known) : Type 0 where
  pub begins : IsPrefix old.seen new.seen
  pub legal : IsHistory new.seen
  pub full : length new.seen ≡ MOST_ENTRIES
  pub front : new.front ≡ MOST_ENTRIES
  pub number : new.number ≡ old.number
  pub made : new.made ≡ old.made
  pub own : calls_by new.number new.seen ≡ new.made

-- what a call of the pass leaves of it, by the reply: the call became an entry, or the journal was full, or memory was refused and
-- the pass is as it was. Bad lines and sessions too many are refused elsewhere
pub record IsPassCall (old : Known) (call : CallData) (reply : ReplyData) (new : Known) : Type 0 where
  pub made : makes_entry reply ≡ true → Extended old call reply new
  pub full : reply ≡ refused JournalFull → SeenFull old new
  pub unchanged : reply ≡ refused NoMemory → new ≡ old
  pub good : reply ≢ refused BadLine
  pub sessions : reply ≢ refused TooManySessions
