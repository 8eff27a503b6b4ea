use Rattle.std.proofs.Common.{option_copied}
use Rattle.scm_book.specs.Machine.{reply_data}
use Rattle.scm_sessions.specs.Script.{reply_line}
use Rattle.scm_sessions.proofs.Sent.{Sends-trans, Sends-same, flat_map-map_take_more}
use Rattle.scm_sessions.proofs.port.Port.put_reply_lines.Goals as goal

pub loop-reply-preserved : goal.loop-reply-preserved
loop-reply-preserved g c =
    Sends-same (Sends-trans c.loop-reply.invariant c.put_reply_line.ensures.bytes)
    (flat_map-map_take_more (λ reply. reply_line (option_copied c.args.name) reply) reply_data _ _ _ _ c.loop-reply-test.true c.reply-item.is)
