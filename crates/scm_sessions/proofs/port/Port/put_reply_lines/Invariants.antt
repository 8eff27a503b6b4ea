use Rattle.std.proofs.Common.{take, map, flat_map, option_copied}
use Rattle.scm_book.specs.Machine.{reply_data}
use Rattle.scm_sessions.specs.Script.{inner_of, has_failed, Sends, reply_line}
use Rattle.scm_sessions.proofs.port.Port.put_reply_lines.Given as goal

-- the lines of the replies below the index are put
abbrev pub invariant-loop-reply : goal.invariant-loop-reply
invariant-loop-reply g l =
    Sends (g.W.Write.contents (inner_of l.fn.self)) (has_failed l.fn.self) (g.W.Write.contents (inner_of l.self)) (has_failed l.self)
    (flat_map (λ reply. reply_line (option_copied l.name) reply) (map reply_data (take l.reply-index l.replies)))
