use Rattle.std.proofs.Common.{◌≡◌, take, map}
use Rattle.scm_sessions.specs.Script.{inner_of, has_failed, reads_of, Sends, joined, content_text}
use Rattle.scm_sessions.proofs.port.Port.put_contents.Given as goal

-- the contents below the index are put
abbrev pub invariant-loop-c : goal.invariant-loop-c
invariant-loop-c g l = record {
  sent : Sends (g.W.Write.contents (inner_of l.fn.self)) (has_failed l.fn.self) (g.W.Write.contents (inner_of l.self)) (has_failed l.self) (joined (take l.c (map content_text l.situation.contents)));
  reads : reads_of l.self ≡ reads_of l.fn.self;
}
