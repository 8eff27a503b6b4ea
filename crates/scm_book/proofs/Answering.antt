-- What each way out of a call is in the machine's steps.
use Rattle.std.proofs.Common.{◌≡◌, ◌⊎◌, ℕ, ◌<◌, ◌≤◌, Bool, List, true, false, Option, None, Some, Result, Ok, Err, IsSomeAnd, IsOkAnd, is_some, nat_le, length, refl, sym, ap, ap₂, ◌∙◌, subst, inl, inr}
use Rattle.std.proofs.lemmas.Bool.{le-leb, lt-leb}
use Rattle.std.specs.Option.{option_or, option_map_or}
use Rattle.scm_sequences.specs.declared.refusal.Refusal.{Refusal}
use Rattle.scm_sequences.specs.declared.refusal.Refusal.TheVariants.{NoMemory, NoSuchTrace, NameTaken, TooManyTraces}
use Rattle.scm_sequences.specs.declared.limits.TheConstants.{MOST_TRACES}
use Rattle.scm_sequences.specs.Sequences.{Refuses}
use Rattle.scm_cells.specs.CellLists.{Declared}
use Rattle.scm_book.specs.declared.call.Decl.{Decl}
use Rattle.scm_book.specs.Machine.{opens, ReplyData, done, refused, Machine, TraceState, new_trace, trace_named, with_trace, cause, declared_cells, trace_cause, place_cause, open_refusal, in_trace, Unless, IsStepOrNoMemory, InTrace, Opens}

-- ---- a call, its first cause of refusal and its effect

module _ (first : Option Refusal) (unchanged : Type 0) where
  -- an answer of a call with this cause, if there is one, and this effect
  abbrev pub Answers : ReplyData → Type 0 → Type 0
  Answers reply effect = Unless first reply unchanged effect ⊎ ((reply ≡ refused NoMemory) × unchanged)

  -- where there is a cause, the call is refused
  pub answers-refused : (refusal : Refusal) (effect : Type 0) → Refuses first refusal → unchanged → Answers (refused refusal) effect
  answers-refused refusal effect (inl is) same = inl (subst (λ o. Unless o (refused refusal) unchanged effect) (sym is) (refl, same))
  answers-refused refusal effect (inr is) same = inr (ap refused is, same)

  -- where there is none, it has its effect
  pub answers-done : (reply : ReplyData) (effect : Type 0) → first ≡ None → effect → Answers reply effect
  answers-done reply effect is h = inl (subst (λ o. Unless o reply unchanged effect) (sym is) h)

-- ---- a call about a trace, with causes and an effect that look at the trace

module _ (old new : Machine) (name : List ℕ) (causes : TraceState → Option Refusal) where
  -- the trace is not there
  pub absent : (effect : Type 0) → trace_named old name ≡ None → new ≡ old → Answers (in_trace old name causes) (new ≡ old) (refused NoSuchTrace) effect
  absent effect none same = answers-refused (in_trace old name causes) (new ≡ old) NoSuchTrace effect (inl (ap (λ o. option_map_or causes o (Some NoSuchTrace)) none)) same

  module _ (state : TraceState) (found : trace_named old name ≡ Some state) where
    -- the trace is there, and refuses the call
    pub there_refused : (refusal : Refusal) (effect : Type 0) → Refuses (causes state) refusal → new ≡ old → Answers (in_trace old name causes) (new ≡ old) (refused refusal) effect
    there_refused refusal effect refuses same =
        answers-refused (in_trace old name causes) (new ≡ old) refusal effect (subst (λ o. Refuses (option_map_or causes o (Some NoSuchTrace)) refusal) (sym found) refuses) same

    -- the trace is there, and the call is not refused
    pub there_made : (reply : ReplyData) (effect : Type 0) → causes state ≡ None → effect → Answers (in_trace old name causes) (new ≡ old) reply effect
    there_made reply effect none h = answers-done (in_trace old name causes) (new ≡ old) reply effect (ap (λ o. option_map_or causes o (Some NoSuchTrace)) found ∙ none) h

    -- and its effect looks at the trace
    pub there_done : (reply : ReplyData) (P : TraceState → Type 0) → causes state ≡ None → P state → Answers (in_trace old name causes) (new ≡ old) reply (InTrace old name P)
    there_done reply P none h = there_made reply (InTrace old name P) none (subst (λ o. IsSomeAnd o P) (sym found) h)

-- what is written under the name is what the trace was said to be
pub written : {T E : Type 0} (old new : Machine) (name : List ℕ) (state : TraceState) (r : Result T E) (become : T → TraceState) → new ≡ with_trace old name state → IsOkAnd r (λ x. state ≡ become x)
    → IsOkAnd r (λ x. new ≡ with_trace old name (become x))
written old new name state (Ok x) become is as_said = is ∙ ap (with_trace old name) as_said
written old new name state (Err e) become is as_said = as_said

-- ---- open

module _ (old new : Machine) (session : ℕ) (name : List ℕ) (procs budget : ℕ) (decls : List Decl) where
  pub open-no_place : (refusal : Refusal) → trace_cause procs budget decls ≡ None → place_cause old name ≡ Some refusal → new ≡ old → IsStepOrNoMemory old session (opens name procs budget decls) (refused refusal) new
  open-no_place refusal good is same =
      answers-refused (open_refusal old name procs budget decls) (new ≡ old) refusal (Opens old session name procs budget decls (refused refusal) new) (inl (ap (λ o. option_or o (place_cause old name)) good ∙ is)) same

  pub open-done : (state : TraceState) → trace_cause procs budget decls ≡ None → place_cause old name ≡ None → IsSomeAnd (declared_cells decls) (λ cells. state ≡ new_trace session procs budget cells)
      → new ≡ with_trace old name state → IsStepOrNoMemory old session (opens name procs budget decls) done new
  open-done state good free made is =
      answers-done (open_refusal old name procs budget decls) (new ≡ old) done (Opens old session name procs budget decls done new) (ap (λ o. option_or o (place_cause old name)) good ∙ free)
      (refl, go (declared_cells decls) made) where
        go : (o : Option (List Declared)) → IsSomeAnd o (λ cells. state ≡ new_trace session procs budget cells) → IsSomeAnd o (λ cells. new ≡ with_trace old name (new_trace session procs budget cells))
        go None made = made
        go (Some cells) made = is ∙ ap (with_trace old name) made

-- ---- the place of a new trace

module _ (machine : Machine) (name : List ℕ) where
  pub place-taken : is_some (trace_named machine name) ≡ true → place_cause machine name ≡ Some NameTaken
  place-taken there = ap (λ b. option_or (cause b NameTaken) (cause (nat_le MOST_TRACES (length machine.traces)) TooManyTraces)) there

  pub place-full : is_some (trace_named machine name) ≡ false → MOST_TRACES ≤ length machine.traces → place_cause machine name ≡ Some TooManyTraces
  place-full absent full =
      ap₂ (λ a b. option_or (cause a NameTaken) (cause b TooManyTraces)) absent (le-leb MOST_TRACES (length machine.traces) full)

  pub place-free : is_some (trace_named machine name) ≡ false → length machine.traces < MOST_TRACES → place_cause machine name ≡ None
  place-free absent room =
      ap₂ (λ a b. option_or (cause a NameTaken) (cause b TooManyTraces)) absent (lt-leb MOST_TRACES (length machine.traces) room)

  pub free-absent : place_cause machine name ≡ None → is_some (trace_named machine name) ≡ false
  free-absent = go (is_some (trace_named machine name)) where
    go : (there : Bool) → option_or (cause there NameTaken) (cause (nat_le MOST_TRACES (length machine.traces)) TooManyTraces) ≡ None → there ≡ false
    go true is = let no : Some NameTaken ≡ None = is in cc
    go false is = refl
