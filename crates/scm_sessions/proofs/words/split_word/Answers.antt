use Rattle.scm_sessions.proofs.Splitting.{words-none, words-split}
use Rattle.scm_sessions.proofs.words.split_word.Goals as goal
use Rattle.std.proofs.Common.{sym, ◌∙◌}

pub returns-in_err-line-clause-words : goal.returns-in_err-line-clause-words
returns-in_err-line-clause-words c =
    rw c.from_residual.ensures (words-none c.args.line.now (sym c.first_of_word.ensures.place ∙ c.in_err-line.was))

pub returns-clause-words : goal.returns-clause-words
returns-clause-words c =
    words-split c.args.line.now _ _ c.in_ok-line.field-0 c.unwrap_or-end.result c.first_blank.result
    (sym c.first_of_word.ensures.place ∙ c.in_ok-line.was) c.first_blank.ensures.place c.unwrap_or-end.ensures
    c.split_at.ensures.front c.split_at.ensures.back
