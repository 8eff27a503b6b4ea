use Rattle.std.proofs.Common.{◌≡◌, false}
use Rattle.scm_sessions.specs.Script.{with_name, is_turned_away}
use Rattle.scm_sessions.proofs.Entering.{with_name_within}
use Rattle.scm_sessions.proofs.sessions.Sessions.enter.Goals as goal

pub invariant_of-self-2 : goal.invariant_of-self-2
invariant_of-self-2 c =
    let away : is_turned_away c.self.inside.names.keys c.args.name ≡ false = cc in
    let keys : c.insert_full.new.self.keys ≡ with_name c.self.inside.names.keys c.args.name = c.in-Ok.ensures.keys in
    rw keys (with_name_within c.self.inside.names.keys c.args.name c.self.invariant away)
