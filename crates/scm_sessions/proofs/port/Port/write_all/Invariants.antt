use Rattle.std.proofs.Common.{length, ◌-◌, ◌≡◌, ◌≤◌, take}
use Rattle.std.specs.Io.KnownBytes.{Appends}
use Rattle.scm_sessions.specs.Script.{inner_of, has_failed, reads_of}
use Rattle.scm_sessions.proofs.port.Port.write_all.Given as goal

-- the bytes below `at` are written, and no write has failed
abbrev pub invariant-loop-at : goal.invariant-loop-at
invariant-loop-at g l = record {
  within : l.at ≤ length l.bytes;
  written : Appends (g.W.Write.contents (inner_of l.initial.self)) (g.W.Write.contents (inner_of l.self)) (take l.at l.bytes);
  failed : has_failed l.self ≡ has_failed l.initial.self;
  reads : reads_of l.self ≡ reads_of l.initial.self;
}

abbrev pub decreases-loop-at : goal.decreases-loop-at
decreases-loop-at g l = length l.bytes - l.at
