-- The lengths that a question is about: the present ones, or those of a mark.
use Rattle.std.proofs.Common.{◌≡◌, ℕ, ◌+◌, ◌*◌, ◌<◌, ◌^◌, List, length, Bool, true, false, Option, None, Some, Result, Ok, IsOkAnd, refl, sym, ap, ap₂, ◌∙◌, subst, arith}
use Rattle.scm_sequences.specs.declared.refusal.Refusal.{Refusal}
use Rattle.scm_sequences.specs.Sequences.{IsWithin, NamesCellsBelow, lengths_of}
use Rattle.scm_sequences.specs.laws.LengthLaws.{IsWithin-reflexive}
use Rattle.scm_sequences.specs.laws.SequenceLaws.{length-lengths_of}
use Rattle.scm_sequences.specs.Traces.{Trace, cut_to}
use Rattle.scm_sequences.specs.laws.CutLaws.{cut_to-whole}
use Rattle.scm_reach.specs.Kept.{Kept}
use Rattle.scm_book.specs.inner.Asking.{CanAsk, IsAsWanted, AsksFor}
use Rattle.scm_book.specs.Machine.{ReplyData, TraceState, trace_in, refusal_in, question_cause, IsAbout, AsksCycle, Fits, FitsCycle}
use Rattle.scm_book.specs.inner.Sets.{asked_lengths, lengths_at_mark, most_steps}
use Rattle.scm_book.specs.inner.Sound.{IsSoundTrace, IsKeptFor}
use Rattle.scm_book.proofs.Keeping.{kept_of}
use Rattle.scm_book.proofs.Questions.{names_of}
use Rattle.scm_book.proofs.Sounding.{IsWithin-mark}

pub asked : (state : TraceState) (mark : Option ℕ) (present : List ℕ) (r : Result (List ℕ) Refusal) → present ≡ lengths_of state.sequences → lengths_at_mark state.marks present mark ≡ r → asked_lengths state mark ≡ r
asked state mark present r whole is = ap (λ l. lengths_at_mark state.marks l mark) (sym whole) ∙ is

-- they are found exactly where there is no cause of refusal
pub cause_none : (state : TraceState) (mark : Option ℕ) (lengths : List ℕ) → asked_lengths state mark ≡ Ok lengths → question_cause state mark ≡ None
cause_none state None lengths is = refl
cause_none state (Some m) lengths is = ap refusal_in is

present_as : (state : TraceState) (lengths : List ℕ) → asked_lengths state None ≡ Ok lengths → lengths_of state.sequences ≡ lengths
present_as state lengths is = cc

pub IsWithin-asked : (state : TraceState) (mark : Option ℕ) (lengths : List ℕ) → IsSoundTrace state → asked_lengths state mark ≡ Ok lengths → IsWithin lengths (lengths_of state.sequences)
IsWithin-asked state None lengths sound is = subst (λ l. IsWithin l (lengths_of state.sequences)) (present_as state lengths is) (IsWithin-reflexive (lengths_of state.sequences))
IsWithin-asked state (Some m) lengths sound is = IsWithin-mark state m lengths sound is

-- what holds of the trace cut to them holds of the trace that the question is about
pub about_asked : (state : TraceState) (mark : Option ℕ) (P : Trace → Type 0) (lengths : List ℕ) → asked_lengths state mark ≡ Ok lengths → P (cut_to (trace_in state) lengths) → IsAbout state mark P
about_asked state None P lengths is h = subst P (cut_to-whole (trace_in state)) (subst (λ l. P (cut_to (trace_in state) l)) (sym (present_as state lengths is)) h)
about_asked state (Some m) P lengths is h = subst (λ r. IsOkAnd r (λ l. P (cut_to (trace_in state) l))) (sym is) h

-- ---- a question about a sound trace, beside which a set is kept

module _ (state : TraceState) (mark : Option ℕ) (limit made : ℕ) (lengths : List ℕ) (set : Kept) (budget : limit ≡ state.budget) (is : asked_lengths state mark ≡ Ok lengths) where
  -- the set may be asked
  pub can_ask : IsSoundTrace state → IsKeptFor state set → made + most_steps state < 2 ^ 64 → CanAsk state.cells state.sequences lengths limit set made
  can_ask sound for room =
      let within : IsWithin lengths (lengths_of state.sequences) = IsWithin-asked state mark lengths sound is in
      let most : limit * length lengths ≡ state.budget * length state.sequences = ap₂ (λ a b. a * b) budget (within.procs ∙ length-lengths_of state.sequences) in
      record {
        initials = for.initials;
        within = within;
        names = subst (λ initials. NamesCellsBelow (length initials) state.sequences) (sym for.initials) (names_of state.cells state.sequences sound.names);
        kept = kept_of state set for;
        few = omega (arith, for.few, budget);
        room = omega (arith, most, room);
      }

  -- and its answer is that of the question
  pub asks_for : (explains : Bool) (reply : ReplyData) → Fits state.cells (cut_to (trace_in state) lengths) limit reply → IsAsWanted explains reply → AsksFor explains state mark reply
  asks_for explains reply fits wanted = by explains wanted where
    about : IsAbout state mark (λ t. Fits state.cells t state.budget reply)
    about = about_asked state mark (λ t. Fits state.cells t state.budget reply) lengths is (subst (λ n. Fits state.cells (cut_to (trace_in state) lengths) n reply) budget fits)

    by : (wish : Bool) → IsAsWanted wish reply → AsksFor wish state mark reply
    by true wanted = (about, wanted)
    by false wanted = (about, wanted)

-- what refutes the trace cut to them refutes the trace that the question is about
pub asks_cycle_found : (state : TraceState) (mark : Option ℕ) (lengths : List ℕ) (reply : ReplyData) → asked_lengths state mark ≡ Ok lengths → FitsCycle (cut_to (trace_in state) lengths) reply → AsksCycle state mark reply
asks_cycle_found state mark lengths reply is fits = about_asked state mark (λ t. FitsCycle t reply) lengths is fits
