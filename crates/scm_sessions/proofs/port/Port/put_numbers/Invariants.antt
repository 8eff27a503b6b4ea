use Rattle.std.proofs.Common.{◌≡◌, take, flat_map}
use Rattle.scm_sessions.specs.Script.{inner_of, has_failed, reads_of, Sends, spaced}
use Rattle.scm_sessions.proofs.port.Port.put_numbers.Given as goal

-- the numbers below the index are put
abbrev pub invariant-loop-number : goal.invariant-loop-number
invariant-loop-number g l = record {
  sent : Sends (g.W.Write.contents (inner_of l.fn.self)) (has_failed l.fn.self) (g.W.Write.contents (inner_of l.self)) (has_failed l.self) (flat_map spaced (take l.number-index l.numbers));
  reads : reads_of l.self ≡ reads_of l.fn.self;
}
