use Rattle.std.proofs.Common.{◌≡◌, ◌<◌, ◌-◌, length, drop, rules, sym, ap, ◌∙◌}
use Rattle.scm_sessions.specs.inner.Reading.{unread_of}
use Rattle.scm_sessions.proofs.Gathering.{unread_length, taken_within, HasGathered-same, HasGathered-all, TakesLine-feed, TakesLine-last}
use Rattle.scm_sessions.proofs.reading.LineReader.next_line.Goals as goal

pub returns-in-Some-clause-ok : goal.returns-in-Some-clause-ok
returns-in-Some-clause-ok g c =
    let same : c.has_bytes.new.self.line.items ≡ c.loop-self.self.line.items = cc in
    let gathered = HasGathered-same c.loop-self.invariant.gathered same c.has_bytes.ensures.is_long in
    let now : c.skip_bytes.new.self.line.items ≡ c.take_bytes.new.self.line.items = cc in
    TakesLine-feed _ (unread_of c.has_bytes.new.self) (unread_of c.skip_bytes.new.self) c.skip_bytes.new.self.line.items
    c.skip_bytes.new.self.is_long c.in-Some.place gathered c.has_bytes.ensures.kept (sym c.feed.ensures.place ∙ c.in-Some.is)
    (now ∙ c.take_bytes.ensures.line) (c.skip_bytes.ensures.is_long ∙ c.take_bytes.ensures.is_long)
    (c.skip_bytes.ensures.unread ∙ ap (drop 1) c.take_bytes.ensures.unread)

pub loop-self-preserved : goal.loop-self-preserved
loop-self-preserved g c = record {
  gathered =
      let same : c.has_bytes.new.self.line.items ≡ c.loop-self.self.line.items = cc in
      let gathered = HasGathered-same c.loop-self.invariant.gathered same c.has_bytes.ensures.is_long in
      let all : c.has_bytes.new.self.end - c.has_bytes.new.self.start ≡ length (unread_of c.has_bytes.new.self) =
      unread_length c.has_bytes.new.self.start c.has_bytes.new.self.end c.has_bytes.new.self.chunk.items (search rules) in
      HasGathered-all _ (unread_of c.has_bytes.new.self) (unread_of c.take_bytes-in-loop-self.new.self)
      c.take_bytes-in-loop-self.new.self.line.items c.take_bytes-in-loop-self.new.self.is_long _ gathered c.has_bytes.ensures.kept
      (sym c.feed.ensures.place ∙ c.in_default.is) all c.take_bytes-in-loop-self.ensures.line
      c.take_bytes-in-loop-self.ensures.is_long c.take_bytes-in-loop-self.ensures.unread;
  room = taken_within _ _ c.take_bytes-in-loop-self.ensures.line;
  budget = search rules;
  failed = search rules;
}

pub returns-else-is_empty-clause-ok : goal.returns-else-is_empty-clause-ok
returns-else-is_empty-clause-ok g c =
    let same : c.has_bytes.new.self.line.items ≡ c.loop-self.self.line.items = cc in
    let gathered = HasGathered-same c.loop-self.invariant.gathered same c.has_bytes.ensures.is_long in
    let some : 0 < length c.has_bytes.new.self.line.items = search rules in
    let ended = rw c.if-branch.false at c.in_ok-has_bytes.ensures.some in
    TakesLine-last _ gathered c.has_bytes.ensures.kept ended some
