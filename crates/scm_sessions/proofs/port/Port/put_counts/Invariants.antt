use Rattle.std.proofs.Common.{◌≡◌, take, map, decimal}
use Rattle.scm_sessions.specs.Script.{inner_of, has_failed, reads_of, Sends, joined}
use Rattle.scm_sessions.proofs.port.Port.put_counts.Given as goal

-- the counts below the index are put
abbrev pub invariant-loop-p : goal.invariant-loop-p
invariant-loop-p g l = record {
  sent : Sends (g.W.Write.contents (inner_of l.fn.self)) (has_failed l.fn.self) (g.W.Write.contents (inner_of l.self)) (has_failed l.self) (joined (take l.p (map decimal l.situation.counts)));
  reads : reads_of l.self ≡ reads_of l.fn.self;
}
