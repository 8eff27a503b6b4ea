-- What each way out of a call is for a book.
use Rattle.std.proofs.Common.{◌≡◌, ℕ, ◌+◌, ◌<◌, ◌^◌, Bool, true, false, List, [], ◌∷◌, ◌++◌, length, map, refl, sym, ap, ◌∙◌, subst, inl, inr, arith}
use Rattle.std.proofs.lemmas.List.{length-append, map-append}
use Rattle.std.proofs.lemmas.Bool.{leb-false}
use Rattle.scm_sequences.specs.declared.refusal.Refusal.TheVariants.{NoMemory, JournalFull}
use Rattle.scm_sequences.specs.declared.limits.TheConstants.{MOST_ENTRIES}
use Rattle.scm_book.specs.Machine.{CallData, ReplyData, EntryData, refused, Machine, empty_machine, IsStep, IsStepOrNoMemory}
use Rattle.scm_book.specs.inner.Changes.{tells_of_change}
use Rattle.scm_results.specs.declared.results.Results.{Results}
use Rattle.scm_results.specs.Totals.{capped}
use Rattle.scm_book.specs.inner.Sets.{KeptTrace, machine_in, sets_in, LeavesSets}
use Rattle.scm_book.specs.Journal.{Answered, IsRun, BookState, IsUnchanged, IsLegalHistory, IsCall, is_full, makes_entry, entered, answered}
use Rattle.scm_book.proofs.Counting.{AreNumbered-entered}
use Rattle.scm_book.specs.laws.ReplyLaws.{IsStep-enters}
use Rattle.scm_book.proofs.Leaving.{leaves_idle}

-- ---- histories

-- a run goes on by a step
IsRun-more : (old mid new : Machine) (steps : List Answered) (a : Answered) → IsRun old steps mid → IsStep mid a.session a.call a.reply new → IsRun old (steps ++ a ∷ []) new
IsRun-more old mid new [] a run step = (new, subst (λ m. IsStep m a.session a.call a.reply new) run step, refl)
IsRun-more old mid new (first ∷ others) a run step = (run.0, run.1, IsRun-more run.0 mid new others a run.2 step)

-- a history goes on by an entry
pub IsLegalHistory-more : (journal : List EntryData) (old new : Machine) (session : ℕ) (call : CallData) (reply : ReplyData) → is_full journal ≡ false → IsLegalHistory journal old → IsStep old session call reply new
    → IsLegalHistory (entered journal session call reply) new
IsLegalHistory-more journal old new session call reply room legal step = record {
  run =
      subst (λ steps. IsRun empty_machine steps new) (sym (map-append answered journal _))
      (IsRun-more empty_machine old new (map answered journal) (record { session = session; call = call; reply = reply }) legal.run step);
  numbered = AreNumbered-entered journal session call reply legal.numbered;
  most =
      let some : length journal < MOST_ENTRIES = leb-false MOST_ENTRIES (length journal) room in
      let one_more : length (entered journal session call reply) ≡ length journal + 1 = length-append journal _ in
      omega (arith, one_more, some);
}

pub IsLegalHistory-same : (journal others : List EntryData) (old new : Machine) → others ≡ journal → new ≡ old → IsLegalHistory journal old → IsLegalHistory others new
IsLegalHistory-same journal others old new same_journal same_machine legal =
    subst (λ m. IsLegalHistory others m) (sym same_machine) (subst (λ j. IsLegalHistory j old) (sym same_journal) legal)

-- ---- ways out of a call

-- a total that nothing is added to
pub capped-same : (n : ℕ) → n < 2 ^ 64 → n ≡ capped (n + 0)
capped-same n fits = omega (arith, fits)

module _ (old new : BookState) (session : ℕ) (call : CallData) (made : ℕ) (counted : new.steps ≡ capped (old.steps + made)) where
  -- the journal is full
  pub call-full : is_full old.journal ≡ true → IsUnchanged old new → new.sets ≡ old.sets → new.results ≡ old.results → LeavesSets old.machine old.sets call (refused JournalFull) 0 made new.sets
      → IsCall old session call (refused JournalFull) new
  call-full full same same_sets counts left = record {
    full = ((λ is. full), (λ is. refl));
    step = λ entered. let no : false ≡ true = entered in cc;
    entry = λ entered. let no : false ≡ true = entered in cc;
    unchanged = λ _. same;
    results = counts;
    idle = λ _. same_sets;
    made = made;
    work = left;
    counted = counted;
  }

  -- memory was refused
  pub call-no_memory : is_full old.journal ≡ false → IsUnchanged old new → new.results ≡ old.results → LeavesSets old.machine old.sets call (refused NoMemory) 0 made new.sets → IsCall old session call (refused NoMemory) new
  call-no_memory room same counts left = record {
    full = ((λ is. let no : false ≡ true = ap makes_memory_entry is in cc), (λ is. let no : false ≡ true = sym room ∙ is in cc));
    step = λ entered. let no : false ≡ true = entered in cc;
    entry = λ entered. let no : false ≡ true = entered in cc;
    unchanged = λ _. same;
    results = counts;
    idle = λ is. let no : false ≡ true = ap makes_memory_entry is in cc;
    made = made;
    work = left;
    counted = counted;
  } where
    -- tells the two refusals apart
    makes_memory_entry : ReplyData → Bool
    makes_memory_entry (refused JournalFull) = true
    makes_memory_entry reply = false

  module _ (reply : ReplyData) (room : is_full old.journal ≡ false) (counts : new.results ≡ old.results) (left : LeavesSets old.machine old.sets call reply 0 made new.sets) where
    -- the machine's reply makes no entry
    pub call-no_entry : IsStepOrNoMemory old.machine session call reply new.machine → makes_entry reply ≡ false → new.journal ≡ old.journal → IsCall old session call reply new
    call-no_entry (inl step) none same = let no : true ≡ false = sym (IsStep-enters old.machine new.machine session call reply step) ∙ none in cc
    call-no_entry (inr memory) none same =
        subst (λ r. IsCall old session call r new) (sym memory.0)
        (call-no_memory room (record { journal = same; machine = memory.1 }) counts (subst (λ r. LeavesSets old.machine old.sets call r 0 made new.sets) memory.0 left))

    -- the machine's reply makes an entry, which stands last
    pub call-entered : makes_entry reply ≡ true → IsStep old.machine session call reply new.machine → new.journal ≡ entered old.journal session call reply → IsCall old session call reply new
    call-entered makes step last = record {
      full = ((λ is. let no : false ≡ true = ap makes_entry (sym is) ∙ makes in cc), (λ is. let no : false ≡ true = sym room ∙ is in cc));
      step = λ _. step;
      entry = λ _. last;
      unchanged = λ none. let no : true ≡ false = sym makes ∙ none in cc;
      results = counts;
      idle = λ is. let no : false ≡ true = ap makes_entry (sym is) ∙ makes in cc;
      made = made;
      work = left;
      counted = counted;
    }

-- the machine's reply makes an entry: it is that of a step
pub step-from_entry : (old new : Machine) (session : ℕ) (call : CallData) (reply : ReplyData) → IsStepOrNoMemory old session call reply new → makes_entry reply ≡ true → IsStep old session call reply new
step-from_entry old new session call reply (inl step) some = step
step-from_entry old new session call reply (inr memory) some = let no : false ≡ true = sym (ap makes_entry memory.0) ∙ some in cc

-- ---- refused before the machine was asked

-- what contracts see of a book with these traces, entries and totals
abbrev pub book_of : List (List ℕ × KeptTrace) → List EntryData → Results → ℕ → BookState
book_of traces entries results steps = record { journal = entries; machine = machine_in traces; sets = sets_in traces; results = results; steps = steps }

module _ (traces : List (List ℕ × KeptTrace)) (entries : List EntryData) (results : Results) (steps : ℕ) (fits : steps < 2 ^ 64) (session : ℕ) (call : CallData) where
  pub unreached-full : is_full entries ≡ true → IsCall (book_of traces entries results steps) session call (refused JournalFull) (book_of traces entries results steps)
  unreached-full full = call-full _ _ session call 0 (capped-same steps fits) full (record { journal = refl; machine = refl }) refl refl (leaves_idle traces call JournalFull 0)

  pub unreached-no_memory : (others : List EntryData) → is_full entries ≡ false → others ≡ entries → IsCall (book_of traces entries results steps) session call (refused NoMemory) (book_of traces others results steps)
  unreached-no_memory others room same = call-no_memory _ _ session call 0 (capped-same steps fits) room (record { journal = same; machine = refl }) refl (leaves_idle traces call NoMemory 0)

-- the machine's reply makes no entry: memory was refused, and the machine is as it was
pub machine-no_entry : (old new : Machine) (session : ℕ) (call : CallData) (reply : ReplyData) → IsStepOrNoMemory old session call reply new → makes_entry reply ≡ false → new ≡ old
machine-no_entry old new session call reply (inl step) none = let no : true ≡ false = sym (IsStep-enters old new session call reply step) ∙ none in cc
machine-no_entry old new session call reply (inr memory) none = memory.1

-- a reply that couldn't be copied tells of no change
pub untold : (reply : ReplyData) (copied : Bool) → (tells_of_change reply ≡ true → copied ≡ true) → copied ≡ false → tells_of_change reply ≡ false
untold reply copied light failed = by (tells_of_change reply) refl where
  by : (tells : Bool) → tells_of_change reply ≡ tells → tells_of_change reply ≡ false
  by true is = let no : true ≡ false = sym (light is) ∙ failed in cc
  by false is = is
