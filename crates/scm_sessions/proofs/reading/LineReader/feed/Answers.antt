use Rattle.scm_sessions.specs.inner.Reading.{unread_of}
use Rattle.scm_sessions.proofs.Gathering.{feed_within}
use Rattle.scm_sessions.proofs.reading.LineReader.feed.Goals as goal

pub returns-clause-within : goal.returns-clause-within
returns-clause-within c = feed_within c.args.self.now.feed (unread_of c.args.self.now) c.args.self.now.first
