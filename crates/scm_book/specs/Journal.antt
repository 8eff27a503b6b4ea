-- Runs of the machine, and the journal of a book: each call and its reply, but for those refused for want of memory or since the
-- journal was full. It is a legal history: a run from the empty machine.
use Rattle.std.specs.Prelude.{ℕ, ◌≡◌, List, [], ◌∷◌, ◌+◌, ◌≤◌, ◌↔◌, ⊤, ◌++◌, length, map, Bool, true, false, nat_le, ◌==◌, count_by}
use Rattle.scm_book.specs.Machine.{CallData, ReplyData, Machine, IsStep, refused, EntryData, empty_machine}
use Rattle.scm_sequences.specs.declared.refusal.Refusal.TheVariants.{JournalFull, NoMemory}
use Rattle.scm_sequences.specs.declared.limits.TheConstants.{MOST_ENTRIES}
use Rattle.scm_results.specs.declared.results.Results.{Results}
use Rattle.scm_results.specs.Totals.{capped}
use Rattle.scm_reach.specs.Kept.{Kept}
use Rattle.scm_book.specs.inner.Sets.{LeavesSets}

-- ==== a run of the machine: steps, each from where the one before ended.

-- a session's call and its reply
pub record Answered : Type 0 where
  pub session : ℕ
  pub call : CallData
  pub reply : ReplyData

abbrev pub IsRun : Machine → List Answered → Machine → Type 0
IsRun old [] new = new ≡ old
IsRun old (a ∷ others) new =
    (mid : Machine) × IsStep old a.session a.call a.reply mid × IsRun mid others new

-- ==== the journal: each call and its reply, but for those refused for want of memory or since the journal was full. It is a
-- legal history: a run of the machine from the empty one.

-- what contracts see of a book
pub record BookState : Type 0 where
  -- the entries, in order
  pub journal : List EntryData
  pub machine : Machine
  -- the sets that are kept for the traces, each under the name of its trace
  pub sets : List (List ℕ × Kept)
  -- how many tasks were taken, and what became of the outcomes that were delivered
  pub results : Results
  -- how many steps questions made in all, up to 2^64 - 1
  pub steps : ℕ

-- how many entries are of this session
abbrev pub count_of : ℕ → List EntryData → ℕ
count_of session entries = count_by (λ entry. entry.session == session) entries

-- the journal with one more entry, whose number says how many entries of its session were there before
abbrev pub entered : List EntryData → ℕ → CallData → ReplyData → List EntryData
entered journal session call reply =
    journal ++ record { session = session; number = count_of session journal; call = call; reply = reply } ∷ []

-- each of these entries, which come after the earlier ones, is numbered so
abbrev pub AreNumbered : List EntryData → List EntryData → Type 0
AreNumbered earlier [] = ⊤
AreNumbered earlier (entry ∷ later) =
    (entry.number ≡ count_of entry.session earlier) × AreNumbered (earlier ++ entry ∷ []) later

-- who called what, and the reply
abbrev pub answered : EntryData → Answered
answered entry = record { session = entry.session; call = entry.call; reply = entry.reply }

-- the entries are a run from the empty machine to this one, each numbered within its session, and no more than the most
pub record IsLegalHistory (journal : List EntryData) (machine : Machine) : Type 0 where
  pub run : IsRun empty_machine (map answered journal) machine
  pub numbered : AreNumbered [] journal
  pub most : length journal ≤ MOST_ENTRIES

-- the book's journal is a legal history that ends in its machine
abbrev pub IsLegalBook : BookState → Type 0
IsLegalBook book = IsLegalHistory book.journal book.machine

abbrev pub is_full : List EntryData → Bool
is_full journal = nat_le MOST_ENTRIES (length journal)

-- neither journal nor machine changed
pub record IsUnchanged (old new : BookState) : Type 0 where
  pub journal : new.journal ≡ old.journal
  pub machine : new.machine ≡ old.machine

-- whether a call that is answered so makes an entry
abbrev pub makes_entry : ReplyData → Bool
makes_entry (refused JournalFull) = false
makes_entry (refused NoMemory) = false
makes_entry reply = true

-- a session's call with this reply leads from old to new. It is refused for a full journal exactly where the journal is
-- full. A reply that makes an entry is that of the machine, and this call with its reply stands last in the journal; with
-- any other journal and machine are as they were. What was found out before is kept, as far as the call allows it, and the
-- steps that it made are counted.
pub record IsCall (old : BookState) (session : ℕ) (call : CallData) (reply : ReplyData) (new : BookState) : Type 0 where
  pub full : (reply ≡ refused JournalFull) ↔ (is_full old.journal ≡ true)
  pub step : makes_entry reply ≡ true → IsStep old.machine session call reply new.machine
  pub entry : makes_entry reply ≡ true → new.journal ≡ entered old.journal session call reply
  pub unchanged : makes_entry reply ≡ false → IsUnchanged old new
  pub results : new.results ≡ old.results
  pub idle : reply ≡ refused JournalFull → new.sets ≡ old.sets
  pub made : ℕ
  pub work : LeavesSets old.machine old.sets call reply 0 made new.sets
  pub counted : new.steps ≡ capped (old.steps + made)
