use Rattle.std.proofs.Common.{◌≡◌, take, flat_map}
use Rattle.scm_sessions.specs.Script.{inner_of, has_failed, reads_of, Sends, line_text}
use Rattle.scm_sessions.proofs.port.Port.put_lines.Given as goal

-- the lines below the index are put
abbrev pub invariant-loop-line : goal.invariant-loop-line
invariant-loop-line g l = record {
  sent : Sends (g.W.Write.contents (inner_of l.fn.self)) (has_failed l.fn.self) (g.W.Write.contents (inner_of l.self)) (has_failed l.self) (flat_map (line_text l.hints) (take l.line-index l.lines));
  reads : reads_of l.self ≡ reads_of l.fn.self;
}
