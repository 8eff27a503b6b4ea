-- A script run over a book that threads share. What the book's journal holds beside the calls of one session is not the run's
-- to say, so the replies of a name's lines are compared with the entries of its session. This project's profile.
use Rattle.std.specs.Prelude.{ℕ, ◌≡◌, ◌≢◌, ◌⊎◌, List, [], ◌∷◌, flat_map, Bool, false, ◌&&◌, if◌then◌else◌, All, IsTrue}
use Rattle.scm_sequences.specs.declared.refusal.Refusal.TheVariants.{BadLine, NoMemory, TooManySessions}
use Rattle.scm_cells.specs.CellLists.{name_eq}
use Rattle.scm_book.specs.Machine.{CallData, ReplyData, refused}
use Rattle.scm_book.specs.Journal.{makes_entry}
use Rattle.scm_book.specs.inner.Callers.{calls_by}
use Rattle.scm_sessions.specs.declared.ended.Ended.{Ended}
use Rattle.scm_sessions.specs.Asking.{AskedData, nothing, bad, good}
use Rattle.scm_sessions.specs.Script.{Exchange, session_of}

-- a bad line is answered that it is one, or that memory was refused; a good line isn't answered that it is a bad one
abbrev pub FitsAsked : AskedData → ReplyData → Type 0
FitsAsked nothing reply = ⊥
FitsAsked (bad name) reply = (reply ≡ refused BadLine) ⊎ (reply ≡ refused NoMemory)
FitsAsked (good name call) reply = reply ≢ refused BadLine

abbrev pub AllFit : List Exchange → Type 0
AllFit exchanges = All (λ e. FitsAsked e.asked e.reply) exchanges

-- whether a line that is answered so became an entry: not where it is a bad line, the journal is full, memory was refused, or
-- all sessions had entered
abbrev pub became_entry : ReplyData → Bool
became_entry (refused BadLine) = false
became_entry (refused TooManySessions) = false
became_entry reply = makes_entry reply

-- the call of a line of this name, where it became an entry, with the reply written for it
abbrev pub entry_in : List ℕ → AskedData → ReplyData → List (CallData × ReplyData)
entry_in name (good caller call) reply =
    if name_eq name caller && became_entry reply then (call, reply) ∷ [] else []
entry_in name asked reply = []

-- the calls of the lines of this name that became entries, with the replies written for them, in order
abbrev pub entries_of : List ℕ → List Exchange → List (CallData × ReplyData)
entries_of name exchanges = flat_map (λ e. entry_in name e.asked e.reply) exchanges

-- what was exchanged in a run that ended so: where its audit agrees, the calls of a name's lines that became entries are its
-- session's entries, in order
pub record IsSharedRun (ended : Ended) (exchanges : List Exchange) : Type 0 where
  pub fit : AllFit exchanges
  pub entries : IsTrue ended.audit.agreed → (name : List ℕ)
      → entries_of name exchanges ≡ calls_by (session_of ended.names.items name) ended.audit.book.journal
