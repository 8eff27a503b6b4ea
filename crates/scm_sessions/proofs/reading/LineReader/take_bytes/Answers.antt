use Rattle.std.proofs.Common.{◌≡◌, ◌++◌, ◌-◌, ◌∙◌, ap₂, take, drop, length, min, rules}
use Rattle.scm_sequences.specs.declared.limits.TheConstants.{LONGEST_LINE}
use Rattle.scm_sessions.specs.inner.Reading.{unread_of}
use Rattle.scm_sessions.proofs.Gathering.{taken_more, unread_is}
use Rattle.scm_sessions.proofs.reading.LineReader.take_bytes.Goals as goal

pub returns-clause-line : goal.returns-clause-line
returns-clause-line c =
    let line = c.args.self.now.line.items in
    let kept : c.min-kept.result ≡ min c.args.count (LONGEST_LINE - length line) = search rules in
    let unread : take (c.args.self.now.end - c.args.self.now.start) (drop c.args.self.now.start c.deref.result.now) ≡ unread_of c.args.self.now =
    unread_is c.args.self.now.start c.args.self.now.end c.deref.result.now c.args.self.now.chunk.items c.args.self.now.ordered c.deref.ensures.value in
    let same : c.skip_bytes.new.self.line.items ≡ c.extend_from_slice.new.self.items = cc in
    same ∙ rw c.unwrap.ensures at c.extend_from_slice.ensures.items ∙ ap₂ (λ n bytes. line ++ take n bytes) kept unread
    ∙ taken_more line (unread_of c.args.self.now) c.args.count c.requires.room
