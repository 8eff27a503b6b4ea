-- The end of a run over a shared book: where the audit agrees, its journal has for each session what the run says.
use Rattle.std.proofs.Common.{◌≡◌, ◌⊎◌, ℕ, zero, suc, ◌+◌, ◌<◌, ◌≤◌, List, [], ◌∷◌, ◌++◌, length, refl, sym, ap, ap₂, ◌∙◌, subst, inl, inr, arith, append-nil, append_assoc, Option, None, Some, slice_get, Bool, true, false, ◌&&◌, ◌==◌, if◌then◌else◌, All, IsTrue}
use Rattle.std.specs.Option.{option_map_or}
use Rattle.std.specs.List.{list_any, list_all, position_or_len}
use Rattle.std.proofs.lemmas.List.Elements.{All-nil, All-cons, All-head, All-tail}
use Rattle.std.proofs.lemmas.Bool.{eqb-true, cases_lt, and_parts, or_cases, both_ways}
use Rattle.std.proofs.lemmas.Option.{slice_get_past}
use Rattle.scm_sequences.specs.declared.refusal.Refusal.TheVariants.{BadLine, NoMemory}
use Rattle.scm_cells.specs.CellLists.{name_eq}
use Rattle.scm_book.specs.Machine.{CallData, ReplyData, refused, EntryData}
use Rattle.scm_book.specs.inner.Callers.{calls_by}
use Rattle.scm_shared.specs.Passes.{Known}
use Rattle.scm_shared.specs.inner.Audits.{covers, AllMatchEntries, Agree}
use Rattle.scm_sessions.specs.Asking.{AskedData, nothing, bad, good}
use Rattle.scm_sessions.specs.Script.{Exchange, Answers, LeadTo, RunsWholeLines, RunsPart, session_of}
use Rattle.scm_sessions.specs.declared.ended.Ended.{Ended}
use Rattle.scm_sessions.specs.inner.SharedRuns.{FitsAsked, AllFit, became_entry, entry_in, entries_of, IsSharedRun}
use Rattle.scm_sessions.specs.inner.Callers.{Callers, callers, AreNumberedFrom, made_by, MakesCall}
use Rattle.scm_sessions.specs.inner.JournalText.{AreNamed}
use Rattle.scm_sessions.specs.declared.findings.Findings.{Findings}
use Rattle.scm_sessions.specs.inner.Findings.{FindsWhole}
use Rattle.scm_sessions.proofs.Running.{FindsWhole-map, RunsWholeLines-map, RunsPart-map}

-- ---- exchange by exchange

Answers-fit : (old : Callers) (asked : AskedData) (reply : ReplyData) (new : Callers) → Answers MakesCall old asked reply new → FitsAsked asked reply
Answers-fit old nothing reply new answers = absurd answers
Answers-fit old (bad name) reply new answers = answers.0
Answers-fit old (good name call) reply new (inl makes) = makes.reply_is
Answers-fit old (good name call) reply new (inr none) = λ is. let other : refused NoMemory ≡ refused BadLine = sym none.0 ∙ is in absurd (cc)

-- the entry that a call makes with this reply, if it is of the session asked about
abbrev entry_if : Bool → CallData → ReplyData → List (CallData × ReplyData)
entry_if of_it call reply = if of_it && became_entry reply then (call, reply) ∷ [] else []

no_entry : (of_it : Bool) (call : CallData) (reply : ReplyData) → became_entry reply ≡ false → [] ≡ entry_if of_it call reply
no_entry true call reply became =
    let one : List (CallData × ReplyData) = (call, reply) ∷ [] in
    let P : Bool → Type 0 = λ b. [] ≡ (if b then one else []) in subst P (sym became) refl
no_entry false call reply became = refl

Answers-made : (old : Callers) (asked : AskedData) (reply : ReplyData) (new : Callers) (name : List ℕ) → Answers MakesCall old asked reply new
    → made_by new name ≡ made_by old name ++ entry_in name asked reply
Answers-made old nothing reply new name answers = absurd answers
Answers-made old (bad n) reply new name answers = ap (λ (c : Callers). made_by c name) answers.1 ∙ sym (append-nil (made_by old name))
Answers-made old (good n call) reply new name (inl makes) = makes.made name
Answers-made old (good n call) reply new name (inr none) =
    ap (λ (c : Callers). made_by c name) none.1 ∙ sym (append-nil (made_by old name))
    ∙ ap (λ (entries : List (CallData × ReplyData)). made_by old name ++ entries) (no_entry (name_eq name n) call reply (ap became_entry none.0))

pub LeadTo-fit : (old : Callers) (exchanges : List Exchange) (new : Callers) → LeadTo MakesCall old exchanges new → AllFit exchanges
LeadTo-fit old [] new lead = All-nil (λ (e : Exchange). FitsAsked e.asked e.reply)
LeadTo-fit old (e ∷ exchanges) new lead =
    All-cons (λ (e : Exchange). FitsAsked e.asked e.reply) e exchanges (Answers-fit old e.asked e.reply lead.0 lead.1) (LeadTo-fit lead.0 exchanges new lead.2)

pub LeadTo-made : (old : Callers) (exchanges : List Exchange) (new : Callers) (name : List ℕ) → LeadTo MakesCall old exchanges new
    → made_by new name ≡ made_by old name ++ entries_of name exchanges
LeadTo-made old [] new name lead = ap (λ (c : Callers). made_by c name) lead ∙ sym (append-nil (made_by old name))
LeadTo-made old (e ∷ exchanges) new name lead =
    LeadTo-made lead.0 exchanges new name lead.2 ∙ ap (λ m. m ++ entries_of name exchanges) (Answers-made old e.asked e.reply lead.0 name lead.1)
    ∙ append_assoc (made_by old name) (entry_in name e.asked e.reply) (entries_of name exchanges)

pub RunsWholeLines-fit : {script left written after : Option (List ℕ)} {old new : Callers}
    → RunsWholeLines script left written after (λ exchanges. LeadTo MakesCall old exchanges new) → RunsWholeLines script left written after AllFit
RunsWholeLines-fit {script} {left} {written} {after} {old} {new} had = RunsWholeLines-map (λ exchanges lead. LeadTo-fit old exchanges new lead) had

pub RunsPart-fit : {script left written after : Option (List ℕ)} {old new : Callers}
    → RunsPart script left written after (λ exchanges. LeadTo MakesCall old exchanges new) → RunsPart script left written after AllFit
RunsPart-fit {script} {left} {written} {after} {old} {new} had = RunsPart-map (λ exchanges lead. LeadTo-fit old exchanges new lead) had

-- ---- passes and the journal

-- a session's pass made its entries
followed : (from : ℕ) (passes : List Known) (journal : List EntryData) (place : ℕ) → AreNumberedFrom from passes → AllMatchEntries passes journal
    → place < length passes → option_map_or (λ pass. pass.made) (slice_get passes place) [] ≡ calls_by (from + place) journal
followed from [] journal place numbered follow within = absurd (omega (arith, within))
followed from (p ∷ passes) journal zero numbered follow within =
    let own : p.made ≡ calls_by p.number journal = All-head (λ (p : Known). p.made ≡ calls_by p.number journal) p passes follow in
    let first = numbered.0 in
    let same : p.number ≡ from + zero = omega (arith, first) in own ∙ ap (λ n. calls_by n journal) same
followed from (p ∷ passes) journal (suc place) numbered follow within =
    let rest : AllMatchEntries passes journal = All-tail (λ (p : Known). p.made ≡ calls_by p.number journal) p passes follow in
    let less : place < length passes = omega (arith, within) in
    let same : from + 1 + place ≡ from + suc place = omega arith in
    followed (from + 1) passes journal place numbered.1 rest less ∙ ap (λ n. calls_by n journal) same

-- a pass of this number is among these
abbrev has_pass : List Known → ℕ → Bool
has_pass passes number = list_any (λ pass. pass.number == number) passes

number_at : (from : ℕ) (p : Known) (passes : List Known) (number : ℕ) → p.number ≡ from → (has_pass passes number ≡ true → number < from + 1 + length passes)
    → ((p.number == number) ≡ true) ⊎ (has_pass passes number ≡ true) → number < from + length (p ∷ passes)
number_at from p passes number first others (inl is) = let same = eqb-true p.number number is in omega (arith, first, same)
number_at from p passes number first others (inr has) = let within = others has in omega (arith, within)

-- and then the number is one of theirs
number_within : (from : ℕ) (passes : List Known) (number : ℕ) → AreNumberedFrom from passes → has_pass passes number ≡ true → number < from + length passes
number_within from [] number numbered has = absurd (cc)
number_within from (p ∷ passes) number numbered has =
    number_at from p passes number numbered.0 (λ others. number_within (from + 1) passes number numbered.1 others)
    (or_cases (p.number == number) (has_pass passes number) has)

none_at : (own : Bool) (passes : List Known) (entry : EntryData) (journal : List EntryData) (number : ℕ) → (entry.session == number) ≡ own
    → has_pass passes entry.session ≡ true → has_pass passes number ≡ false → calls_by number journal ≡ [] → calls_by number (entry ∷ journal) ≡ []
none_at true passes entry journal number is has none rest =
    let same : entry.session ≡ number = eqb-true entry.session number is in
    absurd (both_ways (has_pass passes number) none (sym (ap (λ n. has_pass passes n) same) ∙ has))
none_at false passes entry journal number is has none rest = rw is rest

-- a session whose pass isn't there has no entries
none_by : (passes : List Known) (journal : List EntryData) (number : ℕ) → covers passes journal ≡ true → has_pass passes number ≡ false
    → calls_by number journal ≡ []
none_by passes [] number covered none = refl
none_by passes (entry ∷ journal) number covered none =
    let parts = and_parts (has_pass passes entry.session) (covers passes journal) covered in
    none_at (entry.session == number) passes entry journal number refl parts.0 none (none_by passes journal number parts.1 none)

no_pass : (passes : List Known) (number : ℕ) (b : Bool) → has_pass passes number ≡ b → AreNumberedFrom 0 passes → length passes ≤ number
    → has_pass passes number ≡ false
no_pass passes number false is numbered past = is
no_pass passes number true is numbered past = let within = number_within 0 passes number numbered is in absurd (omega (arith, within, past))

-- what each session made are its entries; one that didn't enter has none
pub agreed_by : (names : List (List ℕ)) (passes : List Known) (journal : List EntryData) (name : List ℕ) → AreNumberedFrom 0 passes
    → Agree passes journal → made_by (callers names passes) name ≡ calls_by (session_of names name) journal
agreed_by names passes journal name numbered agree = at (cases_lt (session_of names name) (length passes))
  where
    at : ((session_of names name) < length passes) ⊎ (length passes ≤ session_of names name)
        → made_by (callers names passes) name ≡ calls_by (session_of names name) journal
    at (inl within) =
        let plain : 0 + session_of names name ≡ session_of names name = omega arith in
        followed 0 passes journal (session_of names name) numbered agree.1 within ∙ ap (λ n. calls_by n journal) plain
    at (inr past) =
        ap (λ o. option_map_or (λ (pass : Known). pass.made) o []) (slice_get_past passes (session_of names name) past)
        ∙ sym (none_by passes journal (session_of names name) agree.0 (no_pass passes (session_of names name) (has_pass passes (session_of names name)) refl numbered past))

-- each entry is of a session that has a name
pub covered_named : (names : List (List ℕ)) (passes : List Known) (journal : List EntryData) → length passes ≡ length names
    → AreNumberedFrom 0 passes → covers passes journal ≡ true → AreNamed names journal
covered_named names passes [] same numbered covered = All-nil (λ (e : EntryData). e.session < length names)
covered_named names passes (entry ∷ journal) same numbered covered =
    let parts = and_parts (has_pass passes entry.session) (covers passes journal) covered in
    let within = number_within 0 passes entry.session numbered parts.0 in
    All-cons (λ (e : EntryData). e.session < length names) entry journal (omega (arith, within, same))
    (covered_named names passes journal same numbered parts.1)

-- ---- the run's end

pub shared_run : (ended : Ended) (passes : List Known) (exchanges : List Exchange)
    → LeadTo MakesCall (callers [] []) exchanges (callers ended.names.items passes) → AreNumberedFrom 0 passes
    → (IsTrue ended.audit.agreed → Agree passes ended.audit.book.journal) → IsSharedRun ended exchanges
shared_run ended passes exchanges lead numbered agrees = record {
  fit = LeadTo-fit (callers [] []) exchanges (callers ended.names.items passes) lead;
  entries = λ agreed name.
      sym (LeadTo-made (callers [] []) exchanges (callers ended.names.items passes) name lead)
      ∙ agreed_by ended.names.items passes ended.audit.book.journal name numbered (agrees agreed);
}

-- a run from no sessions, to these names and passes
pub FindsWhole-callers : {script left written after : Option (List ℕ)} {old new : Callers} {names : List (List ℕ)} {passes : List Known} {found : Findings}
    → FindsWhole script left written after (λ exchanges. LeadTo MakesCall old exchanges new) found → old ≡ callers [] [] → names ≡ new.names → passes ≡ new.passes
    → FindsWhole script left written after (λ exchanges. LeadTo MakesCall (callers [] []) exchanges (callers names passes)) found
FindsWhole-callers {script} {left} {written} {after} {old} {new} {names} {passes} {found} runs starts same_names same_passes =
    let ends : new ≡ callers names passes = sym (ap₂ callers same_names same_passes) in
    FindsWhole-map (λ exchanges run.
    let P : Callers → Type 0 = λ s. LeadTo MakesCall old exchanges s in
    let Q : Callers → Type 0 = λ s. LeadTo MakesCall s exchanges (callers names passes) in
    subst Q starts (subst P ends run)) runs
