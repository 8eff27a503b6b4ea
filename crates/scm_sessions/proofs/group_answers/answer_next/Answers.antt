use Rattle.scm_sessions.proofs.Replying.{answered_next, first_replied}
use Rattle.scm_sessions.proofs.group_answers.answer_next.Goals as goal

pub reply_to-reply-requires : goal.reply_to-reply-requires
reply_to-reply-requires g c = first_replied _ _ _ _ _ _ _ _ c.group.view_is c.in-Some.ensures.items c.requires

pub returns : goal.returns
returns g c =
    answered_next _ _ _ _ _ _ _ _ _ _ _ _ c.group.view_is c.in-Some.ensures.items c.push_reserved.ensures.items c.reply_to-reply.ensures
    c.add_reply_to.ensures
