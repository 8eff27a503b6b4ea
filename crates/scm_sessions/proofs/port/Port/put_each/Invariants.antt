use Rattle.std.proofs.Common.{◌≡◌, take, flat_map}
use Rattle.scm_sessions.specs.Script.{inner_of, has_failed, reads_of, Sends, shown_text}
use Rattle.scm_sessions.proofs.port.Port.put_each.Given as goal

-- the operations below the index are put
abbrev pub invariant-loop-shown : goal.invariant-loop-shown
invariant-loop-shown g l = record {
  sent : Sends (g.W.Write.contents (inner_of l.fn.self)) (has_failed l.fn.self) (g.W.Write.contents (inner_of l.self)) (has_failed l.self) (flat_map shown_text (take l.shown-index l.operations));
  reads : reads_of l.self ≡ reads_of l.fn.self;
}
