use Rattle.std.proofs.Common.{◌≡◌, ◌<◌, ◌≤◌, ℕ, List, length, refl, sym, ap, ◌∙◌, subst, arith, Bool, false}
use Rattle.scm_sessions.specs.Script.{is_turned_away}
use Rattle.scm_sessions.specs.inner.Callers.{Callers, callers, made_by}
use Rattle.scm_sessions.proofs.Entries.{known_invariant, known_made, new_invariant, new_place, new_made, back_invariant, back_made}
use Rattle.scm_sessions.proofs.shared_sessions.SharedSessions.enter.Goals as goal

pub invariant_of-self-then-place-len : goal.invariant_of-self-then-place-len
invariant_of-self-then-place-len g c =
    let ok = c.in_ok-place.ensures.ok in
    let within : c.in_ok-place.place < length c.self.inside.passes.items = search arith in
    known_invariant _ _ _ _ _ c.self.invariant.1 ok.0 ok.1 within c.self.invariant.0 c.self.invariant.2

pub returns-then-place-len-clause-made : goal.returns-then-place-len-clause-made
returns-then-place-len-clause-made g c =
    let ok = c.in_ok-place.ensures.ok in
    let within : c.in_ok-place.place < length c.self.inside.passes.items = search arith in
    λ other. known_made _ _ _ _ _ c.self.invariant.1 ok.0 ok.1 within other ∙ ap (λ (s : Callers). made_by s other) c.self.view_is

pub invariant_of-self-in-Ok : goal.invariant_of-self-in-Ok
invariant_of-self-in-Ok g c =
    let ok = c.in_ok-place.ensures.ok in
    let past : length c.self.inside.passes.items ≤ c.in_ok-place.place = search arith in
    let stays : is_turned_away c.self.inside.names.keys c.args.name ≡ false = cc in
    new_invariant _ _ _ _ _ c.self.invariant.1 ok.0 ok.1 past _ c.in-Ok.ensures.ok c.self.invariant.0 stays c.self.invariant.2

pub invariant_of-self-in-Err : goal.invariant_of-self-in-Err
invariant_of-self-in-Err g c =
    let ok = c.in_ok-place.ensures.ok in
    let past : length c.self.inside.passes.items ≤ c.in_ok-place.place = search arith in
    rw c.in-Err.ensures.unchanged (back_invariant _ _ _ _ _ c.self.invariant.1 ok.0 ok.1 past _ c.truncate.ensures.keys c.self.invariant.0 c.self.invariant.2)

pub returns-in-Ok-clause-ok : goal.returns-in-Ok-clause-ok
returns-in-Ok-clause-ok g c =
    let ok = c.in_ok-place.ensures.ok in
    let past : length c.self.inside.passes.items ≤ c.in_ok-place.place = search arith in
    new_place _ _ _ _ _ c.self.invariant.1 ok.0 ok.1 past _ c.in-Ok.ensures.ok

pub returns-in-Ok-clause-made : goal.returns-in-Ok-clause-made
returns-in-Ok-clause-made g c =
    let ok = c.in_ok-place.ensures.ok in
    let past : length c.self.inside.passes.items ≤ c.in_ok-place.place = search arith in
    λ other. new_made _ _ _ _ _ c.self.invariant.1 ok.0 ok.1 past _ c.in-Ok.ensures.ok other ∙ ap (λ (s : Callers). made_by s other) c.self.view_is

pub returns-in-Err-clause-made : goal.returns-in-Err-clause-made
returns-in-Err-clause-made g c =
    let ok = c.in_ok-place.ensures.ok in
    let past : length c.self.inside.passes.items ≤ c.in_ok-place.place = search arith in
    λ other. rw c.in-Err.ensures.unchanged (back_made _ _ _ _ _ c.self.invariant.1 ok.0 ok.1 past _ c.truncate.ensures.keys other ∙ ap (λ (s : Callers). made_by s other) c.self.view_is)
