use Rattle.std.proofs.Common.{rules, arith, ap}
use Rattle.scm_shared.proofs.Moves.{enters}
use Rattle.scm_shared.proofs.length_word.LengthWord.admit.Goals as goal

pub split_seat-requires : goal.split_seat-requires
split_seat-requires g c = (search rules, omega (arith, c.args.self.now.one_word), enters _ _ (ap (λ me. me.0.keeps) c.requires.seat.1))
