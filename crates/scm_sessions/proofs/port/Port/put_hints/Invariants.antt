use Rattle.std.proofs.Common.{◌≡◌, take, flat_map}
use Rattle.scm_sessions.specs.Script.{inner_of, has_failed, reads_of, Sends, hint_text}
use Rattle.scm_sessions.proofs.port.Port.put_hints.Given as goal

-- the hints below the index are put
abbrev pub invariant-loop-hint : goal.invariant-loop-hint
invariant-loop-hint g l = record {
  sent : Sends (g.W.Write.contents (inner_of l.fn.self)) (has_failed l.fn.self) (g.W.Write.contents (inner_of l.self)) (has_failed l.self) (flat_map hint_text (take l.hint-index l.hints));
  reads : reads_of l.self ≡ reads_of l.fn.self;
}
