use Rattle.std.proofs.Common.{◌≡◌, ◌==◌, ◌∙◌, ◌+◌, ◌-◌, ◌≤◌, ap, arith, drop, length, position, rules, take}
use Rattle.scm_sessions.proofs.Gathering.{unread_is, unread_length}
use Rattle.scm_sessions.proofs.reading.LineReader.skip_bytes.Goals as goal

pub invariant_of-self-clause-first : goal.invariant_of-self-clause-first
invariant_of-self-clause-first c =
    let start = c.args.self.now.start in
    let end = c.args.self.now.end in
    let chunk = c.args.self.now.chunk.items in
    let left : end - start ≡ length (drop start (take end chunk)) = unread_length start end chunk (search rules) in
    let within : c.args.count ≤ length (drop start (take end chunk)) = c.requires in
    let ordered : start + c.args.count ≤ end = omega (arith, left, within, c.args.self.now.ordered) in
    c.first_feed-self.ensures.place
    ∙ ap (position (λ b. b == 10)) (unread_is (start + c.args.count) end c.deref.result.now chunk ordered c.deref.ensures.value)
