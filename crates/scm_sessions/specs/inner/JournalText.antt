-- The text of a journal. This project's profile.
use Rattle.std.specs.Prelude.{ℕ, ◌+◌, ◌<◌, List, [], ◌∷◌, ◌++◌, length, All, codes, decimal, slice_index_or}
use Rattle.scm_book.specs.Machine.{EntryData}
use Rattle.scm_sessions.specs.Script.{spaced, reply_text}

-- each entry is of a session that has a name
abbrev pub AreNamed : List (List ℕ) → List EntryData → Type 0
AreNamed names journal = All (λ entry. entry.session < length names) journal

-- how many entries there are
abbrev pub journal_head : ℕ → List ℕ
journal_head count = codes "journal " ++ decimal count ++ 10 ∷ []

-- the line of an entry: its place, the name of its session, its number within the session, its reply
abbrev pub entry_line : ℕ → List ℕ → EntryData → List ℕ
entry_line place name entry =
    decimal place ++ codes " " ++ name ++ spaced entry.number ++ codes " " ++ reply_text entry.reply ++ 10 ∷ []

-- the lines of entries, the first of which stands at this place
abbrev pub entry_lines : List (List ℕ) → ℕ → List EntryData → List ℕ
entry_lines names place [] = []
entry_lines names place (entry ∷ later) =
    entry_line place (slice_index_or names entry.session []) entry ++ entry_lines names (place + 1) later

-- the head, and a line for each entry, in order
abbrev pub journal_text : List (List ℕ) → List EntryData → List ℕ
journal_text names journal = journal_head (length journal) ++ entry_lines names 0 journal
