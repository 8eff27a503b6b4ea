use Rattle.std.proofs.Common.{◌≡◌, map, take}
use Rattle.scm_book.specs.Machine.{entry_data}
use Rattle.scm_sessions.specs.Script.{inner_of, has_failed, reads_of, Sends}
use Rattle.scm_sessions.specs.inner.JournalText.{entry_lines}
use Rattle.scm_sessions.proofs.port.Port.put_entries.Given as goal

-- the entries below the place are put
abbrev pub invariant-loop-place : goal.invariant-loop-place
invariant-loop-place g l = record {
  sent : Sends (g.W.Write.contents (inner_of l.fn.self)) (has_failed l.fn.self) (g.W.Write.contents (inner_of l.self)) (has_failed l.self) (entry_lines l.names 0 (take l.place (map entry_data l.entries)));
  reads : reads_of l.self ≡ reads_of l.fn.self;
}
