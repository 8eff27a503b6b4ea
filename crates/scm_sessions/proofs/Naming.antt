-- Each entry that a run makes is of a session whose name was entered.
use Rattle.std.proofs.Common.{◌≡◌, inl, inr, ℕ, ◌<◌, ◌≤◌, List, [], ◌∷◌, ◌++◌, length, refl, sym, ap₂, subst, arith, Bool, true, false, Option, MatchBool, if◌then◌else◌, length-append}
use Rattle.std.proofs.lemmas.List.Elements.{All-nil, All-push, All-weaker}
use Rattle.std.specs.List.{list_any, position_or_len}
use Rattle.scm_cells.specs.CellLists.{name_eq}
use Rattle.scm_book.specs.Machine.{CallData, ReplyData, EntryData}
use Rattle.scm_book.specs.Journal.{BookState, count_of, makes_entry, IsCall}
use Rattle.scm_sessions.specs.Asking.{AskedData, nothing, bad, good}
use Rattle.scm_sessions.specs.Script.{Exchange, Answers, RunsWhole, ScriptState, script_state, session_of, is_entered, with_name, AnswersCall, IsScriptRun}
use Rattle.scm_sessions.specs.declared.findings.Findings.{Findings}
use Rattle.scm_sessions.specs.inner.Findings.{FindsWhole}
use Rattle.scm_sessions.specs.inner.JournalText.{AreNamed}
use Rattle.scm_sessions.proofs.Running.{FindsWhole-map}

module _ {X : Type 0} (test : X → Bool) where
  found_at : (b : Bool) (x : X) (xs : List X) → test x ≡ b → (list_any test xs ≡ true → position_or_len test xs < length xs)
      → list_any test (x ∷ xs) ≡ true → position_or_len test (x ∷ xs) < length (x ∷ xs)
  found_at true x xs passes later some = rw passes (omega arith)
  found_at false x xs fails later some = let rest : list_any test xs ≡ true = rw fails at some in let within = later rest in rw fails (omega arith)

  -- an element that passes has a place
  pub found_within : (xs : List X) → list_any test xs ≡ true → position_or_len test xs < length xs
  found_within [] some = absurd (cc)
  found_within (x ∷ xs) some = found_at (test x) x xs refl (found_within xs) some

  place_at : (b : Bool) (x : X) (xs : List X) → test x ≡ b → position_or_len test xs ≤ length xs
      → position_or_len test (x ∷ xs) ≤ length (x ∷ xs)
  place_at true x xs passes within = rw passes (omega arith)
  place_at false x xs fails within = rw fails (omega arith)

  pub place_within : (xs : List X) → position_or_len test xs ≤ length xs
  place_within [] = omega arith
  place_within (x ∷ xs) = place_at (test x) x xs refl (place_within xs)

session_within : (names : List (List ℕ)) (name : List ℕ) (is_there : Bool) → is_entered names name ≡ is_there
    → session_of names name < length (if is_there then names else names ++ name ∷ [])
session_within names name true is = found_within (name_eq name) names is
session_within names name false is = let within = place_within (name_eq name) names in simp length-append (omega arith)

names_grow : (names : List (List ℕ)) (name : List ℕ) (is_there : Bool) → length names ≤ length (if is_there then names else names ++ name ∷ [])
names_grow names name true = omega arith
names_grow names name false = simp length-append (omega arith)

-- the entries so far are named by more names too
still_named : (names more : List (List ℕ)) (journal : List EntryData) → length names ≤ length more → AreNamed names journal → AreNamed more journal
still_named names more journal grown named =
    let P : EntryData → Type 0 = λ entry. entry.session < length names in
    let Q : EntryData → Type 0 = λ entry. entry.session < length more in
    All-weaker P Q (λ entry within. omega arith) journal named

-- a call of a session that has a name
call_named : (names : List (List ℕ)) (session : ℕ) (call : CallData) (reply : ReplyData) (old new : BookState) → session < length names
    → IsCall old session call reply new → AreNamed names old.journal → AreNamed names new.journal
call_named names session call reply old new within is named = at (makes_entry reply) refl
  where
    P : EntryData → Type 0
    P entry = entry.session < length names

    at : (b : Bool) → makes_entry reply ≡ b → AreNamed names new.journal
    at true makes =
        subst (AreNamed names) (sym (is.entry makes)) (All-push P old.journal
        (record { session = session; number = count_of session old.journal; call = call; reply = reply }) named within)
    at false makes = subst (AreNamed names) (sym ((is.unchanged makes).journal)) named

-- the entries of this state's journal are named
abbrev IsNamed : ScriptState → Type 0
IsNamed state = AreNamed state.names state.book.journal

entered_named : (old : ScriptState) (name : List ℕ) (call : CallData) (reply : ReplyData) (new : ScriptState) → new.names ≡ with_name old.names name
    → IsCall old.book (session_of old.names name) call reply new.book → IsNamed old → IsNamed new
entered_named old name call reply new names is named =
    let P : List (List ℕ) → Type 0 = λ ns. AreNamed ns new.book.journal in
    subst P (sym names) (call_named (with_name old.names name) (session_of old.names name) call reply old.book new.book
    (session_within old.names name (is_entered old.names name) refl) is
    (still_named old.names (with_name old.names name) old.book.journal (names_grow old.names name (is_entered old.names name)) named))

turned_or_entered : (away : Bool) (old : ScriptState) (name : List ℕ) (call : CallData) (reply : ReplyData) (new : ScriptState) (A : Type 0)
    → MatchBool away (A × (new ≡ old)) ((new.names ≡ with_name old.names name) × IsCall old.book (session_of old.names name) call reply new.book)
    → IsNamed old → IsNamed new
turned_or_entered true old name call reply new A answers named = subst IsNamed (sym answers.1) named
turned_or_entered false old name call reply new A answers named = entered_named old name call reply new answers.0 answers.1 named

AnswersCall-named : (old : ScriptState) (name : List ℕ) (call : CallData) (reply : ReplyData) (new : ScriptState)
    → AnswersCall old name call reply new → IsNamed old → IsNamed new
AnswersCall-named old name call reply new answers named = turned_or_entered _ old name call reply new _ answers named

Answers-named : (old : ScriptState) (asked : AskedData) (reply : ReplyData) (new : ScriptState) → Answers AnswersCall old asked reply new → IsNamed old → IsNamed new
Answers-named old nothing reply new answers named = absurd answers
Answers-named old (bad name) reply new answers named = subst IsNamed (sym answers.1) named
Answers-named old (good name call) reply new (inl answers) named = AnswersCall-named old name call reply new answers named
Answers-named old (good name call) reply new (inr answers) named = subst IsNamed (sym answers.1) named

IsScriptRun-named : (old : ScriptState) (exchanges : List Exchange) (new : ScriptState) → IsScriptRun old exchanges new → IsNamed old → IsNamed new
IsScriptRun-named old [] new run named = subst IsNamed (sym run) named
IsScriptRun-named old (e ∷ exchanges) new run named =
    IsScriptRun-named run.0 exchanges new run.2 (Answers-named old e.asked e.reply run.0 run.1 named)

-- a run from no entries
pub RunsWhole-named : {script left written after : Option (List ℕ)} {old new : ScriptState} {book ended : BookState} {names : List (List ℕ)}
    → RunsWhole script left written after (λ exchanges. IsScriptRun old exchanges new) → old ≡ script_state [] book → names ≡ new.names → ended ≡ new.book
    → book.journal ≡ [] → AreNamed names ended.journal
RunsWhole-named {script} {left} {written} {after} {old} {new} {book} {ended} {names} runs starts same_names same_book none =
    let P : EntryData → Type 0 = λ entry. entry.session < 0 in
    let Q : ScriptState → Type 0 = IsNamed in
    let before : IsNamed old = subst Q (sym starts) (subst (AreNamed []) (sym none) (All-nil P)) in
    let later : IsNamed new = IsScriptRun-named old runs.exchanges new runs.run before in
    let R : List (List ℕ) → BookState → Type 0 = λ ns b. AreNamed ns b.journal in
    subst (λ (b : BookState). R names b) (sym same_book) (subst (λ (ns : List (List ℕ)). R ns new.book) (sym same_names) later)

-- a run from no names, to these names and this book
pub FindsWhole-named : {script left written after : Option (List ℕ)} {old new : ScriptState} {book ended : BookState} {names : List (List ℕ)} {found : Findings}
    → FindsWhole script left written after (λ exchanges. IsScriptRun old exchanges new) found → old ≡ script_state [] book → names ≡ new.names → ended ≡ new.book
    → FindsWhole script left written after (λ exchanges. IsScriptRun (script_state [] book) exchanges (script_state names ended)) found
FindsWhole-named {script} {left} {written} {after} {old} {new} {book} {ended} {names} {found} runs starts same_names same_book =
    let ends : new ≡ script_state names ended = sym (ap₂ script_state same_names same_book) in
    FindsWhole-map (λ exchanges run.
    let P : ScriptState → Type 0 = λ s. IsScriptRun old exchanges s in
    let Q : ScriptState → Type 0 = λ s. IsScriptRun s exchanges (script_state names ended) in
    subst Q starts (subst P ends run)) runs
