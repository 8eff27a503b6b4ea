use Rattle.std.proofs.Common.{◌≡◌, take, flat_map}
use Rattle.scm_sessions.specs.Script.{inner_of, has_failed, reads_of, Sends, spaced_word}
use Rattle.scm_sessions.proofs.port.Port.put_names.Given as goal

-- the names below the index are put
abbrev pub invariant-loop-name : goal.invariant-loop-name
invariant-loop-name g l = record {
  sent : Sends (g.W.Write.contents (inner_of l.fn.self)) (has_failed l.fn.self) (g.W.Write.contents (inner_of l.self)) (has_failed l.self) (flat_map spaced_word (take l.name-index l.names));
  reads : reads_of l.self ≡ reads_of l.fn.self;
}
