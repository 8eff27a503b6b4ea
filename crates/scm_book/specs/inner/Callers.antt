-- What a journal says of one session, and of no machine in particular.
use Rattle.std.specs.Prelude.{ℕ, List, [], ◌∷◌, if◌then◌else◌, ◌==◌}
use Rattle.scm_book.specs.Machine.{CallData, ReplyData, EntryData, Machine}
use Rattle.scm_book.specs.Journal.{IsLegalHistory}

-- the calls of this session with their replies, in order
abbrev pub calls_by : ℕ → List EntryData → List (CallData × ReplyData)
calls_by session [] = []
calls_by session (entry ∷ others) =
    if entry.session == session then (entry.call, entry.reply) ∷ calls_by session others
    else calls_by session others

-- the entries are a legal history: some machine stands at its end
pub record IsHistory (entries : List EntryData) : Type 0 where
  pub machine : Machine
  pub legal : IsLegalHistory entries machine
