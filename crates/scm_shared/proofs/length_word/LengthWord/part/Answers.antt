use Rattle.std.proofs.Common.{rules, arith}
use Rattle.scm_shared.proofs.Moves.{parts}
use Rattle.scm_shared.proofs.length_word.LengthWord.part.Goals as goal

pub split_seat-requires : goal.split_seat-requires
split_seat-requires g c = (search rules, omega (arith, c.args.self.now.one_word), parts _ _)
