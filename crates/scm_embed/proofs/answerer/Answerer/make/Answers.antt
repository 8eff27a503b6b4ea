use Rattle.scm_book.specs.Machine.{reply_data}
use Rattle.scm_embed.proofs.answerer.Answerer.make.Goals as goal

pub returns : goal.returns
returns c =
    (reply_data c.call-reply.result, rw (c.keep.ensures.sessions) c.call-reply.ensures, c.keep.ensures.answer, c.keep.ensures.code, c.keep.ensures.names)
