-- What the book's own clauses see of its journal.
use Rattle.std.specs.Prelude.{ℕ, ◌≡◌, List, slice_index}
use Rattle.scm_book.specs.Machine.{EntryData}
use Rattle.scm_book.specs.Journal.{count_of}

pub record JournalState : Type 0 where
  pub entries : List EntryData
  -- how many more entries take no memory
  pub room : ℕ
  -- the sessions below this number have a counter
  pub sessions : ℕ

-- the counters say how many entries are of each session; where there is no counter there is none
abbrev pub CountsEach : List ℕ → List EntryData → Type 0
CountsEach counts entries = (session : ℕ) → slice_index counts session ≡ count_of session entries
