use Rattle.std.proofs.Common.{rules, arith}
use Rattle.scm_shared.proofs.Moves.{learns_as}
use Rattle.scm_shared.proofs.length_word.LengthWord.learn.Goals as goal

pub load-requires : goal.load-requires
load-requires g c = (search rules, omega (arith, c.args.self.now.one_word), learns_as _ _ _ c.requires.book.1 c.requires.book.0)
