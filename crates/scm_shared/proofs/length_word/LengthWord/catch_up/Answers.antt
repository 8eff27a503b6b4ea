use Rattle.std.proofs.Common.{rules, arith, ap}
use Rattle.scm_shared.specs.inner.Seats.{known_in}
use Rattle.scm_shared.proofs.Moves.{learns_as}
use Rattle.scm_shared.proofs.Seating.{joined}
use Rattle.scm_shared.proofs.length_word.LengthWord.catch_up.Goals as goal

pub load-requires : goal.load-requires
load-requires g c =
    let now = joined c.args.seat.now.me c.join.new.seat.me (known_in c.args.badge.now.views) c.join.ensures.1 c.requires.seat.1 in
    (search rules, omega (arith, c.args.self.now.one_word), learns_as _ _ _ (ap (λ me. me.1) now) (ap (λ me. me.0.keeps) now))
