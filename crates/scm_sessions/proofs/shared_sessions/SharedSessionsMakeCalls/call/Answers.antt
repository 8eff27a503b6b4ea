use Rattle.std.proofs.Common.{◌≡◌, ◌<◌, ℕ, List, length, refl, sym, ap, inl, ◌∙◌, subst}
use Rattle.scm_sessions.specs.Script.{session_of}
use Rattle.scm_sessions.specs.inner.Callers.{Callers, callers, made_by}
use Rattle.scm_sessions.proofs.Making.{Called-from, called_invariant, called_makes, refused_makes}
use Rattle.scm_sessions.proofs.shared_sessions.SharedSessionsMakeCalls.call.Goals as goal

pub invariant_of-self : goal.invariant_of-self
invariant_of-self g c =
    let view = c.self.view_is in
    let is_place : c.in-Ok.place ≡ session_of c.self.inside.names.keys c.args.name = c.in-Ok.ensures.ok.0 ∙ ap (λ (s : Callers). session_of s.names c.args.name) (sym view) in
    let within : c.in-Ok.place < length c.self.inside.passes.items = subst (λ (s : Callers). c.in-Ok.place < length s.passes) (sym view) c.in-Ok.ensures.ok.1 in
    let called = Called-from _ _ _ _ c.call.ensures in
    called_invariant _ _ _ _ _ _ _ _ c.self.invariant.1 is_place within _ c.index_mut.ensures.value refl called c.self.invariant.0 c.self.invariant.2

pub returns-in-Ok : goal.returns-in-Ok
returns-in-Ok g c =
    let view = c.self.view_is in
    let is_place : c.in-Ok.place ≡ session_of c.self.inside.names.keys c.args.name = c.in-Ok.ensures.ok.0 ∙ ap (λ (s : Callers). session_of s.names c.args.name) (sym view) in
    let within : c.in-Ok.place < length c.self.inside.passes.items = subst (λ (s : Callers). c.in-Ok.place < length s.passes) (sym view) c.in-Ok.ensures.ok.1 in
    let called = Called-from _ _ _ _ c.call.ensures in
    let entered = λ (other : List ℕ). ap (λ (s : Callers). made_by s other) view ∙ c.in-Ok.ensures.made other in
    inl (called_makes _ _ _ _ _ _ _ _ c.self.invariant.1 is_place within _ c.index_mut.ensures.value refl called _ entered c.call.ensures.good)

pub returns-in-Err : goal.returns-in-Err
returns-in-Err g c = inl (refused_makes _ _ _ _ _ c.in-Err.ensures.err c.in-Err.ensures.made)
