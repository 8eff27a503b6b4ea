use Rattle.std.proofs.Common.{rules, arith}
use Rattle.scm_shared.proofs.Moves.{fronts_as}
use Rattle.scm_shared.proofs.length_word.LengthWord.front.Goals as goal

pub load-found-requires : goal.load-found-requires
load-found-requires g c = (search rules, omega (arith, c.args.self.now.one_word), fronts_as _ _ _ (search rules))
