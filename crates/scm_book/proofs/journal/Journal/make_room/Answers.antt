use Rattle.std.proofs.Common.{◌≡◌, ◌+◌, ◌-◌, ◌++◌, List, ℕ, replicate, map, take_all, ap, ◌∙◌, arith}
use Rattle.std.specs.Vec.{vec_len}
use Rattle.scm_book.specs.Machine.{entry_data}
use Rattle.scm_book.proofs.Counting.{CountsEach-widened}
use Rattle.scm_book.proofs.journal.Journal.make_room.Goals as goal

pub invariant_of-self-in-Continue-branch-2 : goal.invariant_of-self-in-Continue-branch-2
invariant_of-self-in-Continue-branch-2 c =
    let counts : c.resize.new.self.items ≡ c.self.inside.counts.items ++ replicate (c.from-sessions.result + 1 - vec_len c.self.inside.counts) 0 =
    c.in_ok-resize.ensures.items ∙ ap (λ (l : List ℕ). l ++ replicate (c.from-sessions.result + 1 - vec_len c.self.inside.counts) 0) (take_all (c.from-sessions.result + 1) c.self.inside.counts.items (omega (arith, c.len.ensures, c.if-len-sessions.true))) in
    rw (c.reserve.ensures.items, counts) (c.self.invariant.0, c.self.invariant.1, CountsEach-widened c.self.inside.counts.items _ (map entry_data c.self.inside.entries.items) c.self.invariant.2)
