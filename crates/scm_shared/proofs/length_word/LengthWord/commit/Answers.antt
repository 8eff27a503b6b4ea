use Rattle.std.proofs.Common.{rules, arith}
use Rattle.scm_shared.specs.inner.Seats.{known_in}
use Rattle.scm_shared.proofs.Moves.{commits_as}
use Rattle.scm_shared.proofs.Seating.{joined}
use Rattle.scm_shared.proofs.length_word.LengthWord.commit.Goals as goal

pub compare_exchange_with-requires : goal.compare_exchange_with-requires
compare_exchange_with-requires g c =
    let now = joined c.args.seat.now.me c.join.new.seat.me (known_in c.args.badge.now.views) c.join.ensures.1 c.requires.seat.1 in
    let count = c.requires.count in
    (search rules, omega (arith, c.args.self.now.one_word), commits_as _ _ _ _ _ _ c.args.entry.now _ _ now c.requires.own (omega (arith, count)) count)
