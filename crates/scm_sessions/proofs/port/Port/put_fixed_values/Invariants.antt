use Rattle.std.proofs.Common.{◌≡◌, take, flat_map}
use Rattle.scm_sessions.specs.Script.{inner_of, has_failed, reads_of, Sends, fixed_text}
use Rattle.scm_sessions.proofs.port.Port.put_fixed_values.Given as goal

-- the values below the index are put
abbrev pub invariant-loop-value : goal.invariant-loop-value
invariant-loop-value g l = record {
  sent : Sends (g.W.Write.contents (inner_of l.fn.self)) (has_failed l.fn.self) (g.W.Write.contents (inner_of l.self)) (has_failed l.self) (flat_map fixed_text (take l.value-index l.fixed));
  reads : reads_of l.self ≡ reads_of l.fn.self;
}
