use Rattle.std.proofs.Common.{rules, arith}
use Rattle.scm_shared.proofs.Moves.{takes}
use Rattle.scm_shared.proofs.length_word.LengthWord.join.Goals as goal

pub join_seat-requires : goal.join_seat-requires
join_seat-requires g c = (search rules, search rules, search rules, omega (arith, c.args.self.now.one_word), takes _ _ _ _)
