-- Only a call that is done, or sets a mark, changes the machine.
use Rattle.std.proofs.Common.{◌≡◌, ℕ, true, false, Option, None, Some, IsSomeAnd, subst, inl, inr}
use Rattle.scm_sequences.specs.declared.refusal.Refusal.{Refusal}
use Rattle.scm_book.specs.Machine.{CallData, opens, claims, releases, reports, sets_mark, goes_back, raises, asks, asks_why, asks_cycle, shows, lists, closes, ReplyData, done, marked, Machine, TraceState, trace_named, refusal_of, Unless, HasEffect, IsStepOrNoMemory}
use Rattle.scm_book.specs.inner.Changes.{tells_of_change}

-- a reply that doesn't tell of a change is neither of these
told-done : (reply : ReplyData) → tells_of_change reply ≡ false → reply ≡ done → ⊥
told-done reply still is = let no : true ≡ false = subst (λ r. tells_of_change r ≡ false) is still in cc

told-marked : (reply : ReplyData) (mark : ℕ) → tells_of_change reply ≡ false → reply ≡ marked mark → ⊥
told-marked reply mark still is = let no : true ≡ false = subst (λ r. tells_of_change r ≡ false) is still in cc

-- an effect on a trace whose reply would tell of it
changing : (o : Option TraceState) (P : TraceState → Type 0) (reply : ReplyData) → tells_of_change reply ≡ false → IsSomeAnd o (λ state. (reply ≡ done) × P state) → ⊥
changing None P reply still effect = effect
changing (Some state) P reply still effect = told-done reply still effect.0

marking : (o : Option TraceState) (P : TraceState → Type 0) (number : TraceState → ℕ) (reply : ReplyData) → tells_of_change reply ≡ false → IsSomeAnd o (λ state. (reply ≡ marked (number state)) × P state) → ⊥
marking None P number reply still effect = effect
marking (Some state) P number reply still effect = told-marked reply (number state) still effect.0

-- an effect that keeps the machine
keeping : (o : Option TraceState) (P : TraceState → Type 0) (same : Type 0) → IsSomeAnd o (λ state. P state × same) → same
keeping None P same effect = absurd effect
keeping (Some state) P same effect = effect.1

effect-keeps : (old new : Machine) (session : ℕ) (call : CallData) (reply : ReplyData) → tells_of_change reply ≡ false → HasEffect old session call reply new → new ≡ old
effect-keeps old new session (opens name procs budget decls) reply still effect = absurd (told-done reply still effect.0)
effect-keeps old new session (claims name p) reply still effect = absurd (changing (trace_named old name) _ reply still effect)
effect-keeps old new session (releases name p) reply still effect = absurd (changing (trace_named old name) _ reply still effect)
effect-keeps old new session (reports name p access) reply still effect = absurd (changing (trace_named old name) _ reply still effect)
effect-keeps old new session (sets_mark name) reply still effect = absurd (marking (trace_named old name) _ _ reply still effect)
effect-keeps old new session (goes_back name m) reply still effect = absurd (changing (trace_named old name) _ reply still effect)
effect-keeps old new session (raises name n) reply still effect = absurd (changing (trace_named old name) _ reply still effect)
effect-keeps old new session (asks name mark) reply still effect = keeping (trace_named old name) _ (new ≡ old) effect
effect-keeps old new session (asks_why name mark) reply still effect = keeping (trace_named old name) _ (new ≡ old) effect
effect-keeps old new session (asks_cycle name mark) reply still effect = keeping (trace_named old name) _ (new ≡ old) effect
effect-keeps old new session (shows name p) reply still effect = keeping (trace_named old name) _ (new ≡ old) effect
effect-keeps old new session lists reply still effect = effect.1
effect-keeps old new session (closes name) reply still effect = absurd (told-done reply still effect.0)

unless-keeps : (first : Option Refusal) (reply : ReplyData) (same effect : Type 0) → (effect → same) → Unless first reply same effect → same
unless-keeps (Some refusal) reply same effect keeps step = step.1
unless-keeps None reply same effect keeps step = keeps step

-- a call whose reply doesn't tell of a change leaves the machine as it was
pub machine-kept : (old new : Machine) (session : ℕ) (call : CallData) (reply : ReplyData) → IsStepOrNoMemory old session call reply new → tells_of_change reply ≡ false → new ≡ old
machine-kept old new session call reply (inl step) still = unless-keeps (refusal_of old session call) reply (new ≡ old) (HasEffect old session call reply new) (effect-keeps old new session call reply still) step
machine-kept old new session call reply (inr memory) still = memory.1
