use Rattle.std.proofs.Common.{◌≡◌, take, flat_map}
use Rattle.scm_sessions.specs.Script.{inner_of, has_failed, reads_of, Sends, situation_text}
use Rattle.scm_sessions.proofs.port.Port.put_situations.Given as goal

-- the situations below the index are put
abbrev pub invariant-loop-situation : goal.invariant-loop-situation
invariant-loop-situation g l = record {
  sent : Sends (g.W.Write.contents (inner_of l.fn.self)) (has_failed l.fn.self) (g.W.Write.contents (inner_of l.self)) (has_failed l.self) (flat_map situation_text (take l.situation-index l.situations));
  reads : reads_of l.self ≡ reads_of l.fn.self;
}
