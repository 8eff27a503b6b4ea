use Rattle.std.proofs.Common.{◌≡◌, ◌<◌, ℕ, List, [], ◌∷◌, ◌++◌, length, codes, flat_map, refl, arith}
use Rattle.std.proofs.lemmas.Bool.Decides.{nat_tests}
use Rattle.scm_sessions.specs.Script.{fixed_text, with_text}
use Rattle.scm_sessions.proofs.Sent.{Sends-trans, Sends-same}
use Rattle.scm_sessions.proofs.port.Port.put_with.Goals as goal

-- where there are values
with_text-some : (fixed : List (List ℕ × ℕ)) → 0 < length fixed → codes " with" ++ flat_map fixed_text fixed ≡ with_text fixed
with_text-some [] some = absurd (omega arith)
with_text-some (first ∷ others) some = refl

pub returns-then-not-is_empty-clause-bytes : goal.returns-then-not-is_empty-clause-bytes
returns-then-not-is_empty-clause-bytes g c =
    let some : 0 < length c.args.fixed.now = grind (arith, nat_tests, c.if-not-is_empty.ensures) in
    Sends-same (Sends-trans c.put.ensures.bytes c.put_fixed_values.ensures.bytes) (with_text-some c.args.fixed.now some)
