-- What the sessions of a run over a shared book made, call by call.
use Rattle.std.proofs.Common.{◌≡◌, ◌≢◌, ◌⊎◌, ℕ, zero, suc, ◌+◌, ◌<◌, List, [], ◌∷◌, ◌++◌, length, refl, sym, ap, ◌∙◌, subst, inl, inr, arith, append-nil, ◌≤◌, Some, slice_get, Bool, true, false, ◌&&◌, if◌then◌else◌, set, get_or}
use Rattle.std.specs.Option.{option_map_or}
use Rattle.std.proofs.lemmas.List.{length-set}
use Rattle.std.proofs.lemmas.Option.{slice_get_read}
use Rattle.std.specs.Cmp.Lexicographic.{same_text, other_text}
use Rattle.scm_sequences.specs.declared.limits.TheConstants.{MOST_SESSIONS}
use Rattle.scm_sequences.specs.declared.refusal.Refusal.{Refusal}
use Rattle.scm_sequences.specs.declared.refusal.Refusal.TheVariants.{BadLine, NoSuchTrace, NameTaken, TooManyTraces, BadDeclaration, NoSuchProcess, ProcessTaken, NotClaimed, NotOwner, NoSuchCell, WidthMismatch, ValueOutOfRange, SequenceFull, NoSuchMark, TooManyMarks, BadBudget, JournalFull, NoMemory, TooManySessions}
use Rattle.scm_cells.specs.CellLists.{name_eq}
use Rattle.scm_book.specs.Machine.{CallData, ReplyData, done, marked, consistent, inconsistent, undecided, because, cycle, unknown, ops, listed, refused}
use Rattle.scm_book.specs.Journal.{makes_entry}
use Rattle.scm_shared.specs.Passes.{Known, newcomer, IsPassCall}
use Rattle.scm_sessions.specs.Script.{session_of}
use Rattle.scm_sessions.specs.inner.SharedRuns.{became_entry}
use Rattle.scm_sessions.specs.inner.Callers.{Callers, callers, AreNumberedFrom, made_by, MakesCall}

-- ---- names

pub same_name : (one other : List ℕ) → name_eq one other ≡ true → one ≡ other
same_name one other is = same_text one other (sym is)

name_eq-refl-at : (b : Bool) (name : List ℕ) → name_eq name name ≡ b → name_eq name name ≡ true
name_eq-refl-at true name is = is
name_eq-refl-at false name is = absurd (other_text name name (sym is) refl)

pub name_eq-refl : (name : List ℕ) → name_eq name name ≡ true
name_eq-refl name = name_eq-refl-at (name_eq name name) name refl

-- ---- the calls that a pass made

-- a call with this reply, where it became an entry
abbrev pub called : CallData → ReplyData → List (CallData × ReplyData)
called call reply = if became_entry reply then (call, reply) ∷ [] else []

-- what the pass at this place made
abbrev pub made_at : List Known → ℕ → List (CallData × ReplyData)
made_at passes place = option_map_or (λ pass. pass.made) (slice_get passes place) []

abbrev pub made_of : List (List ℕ) → List Known → List ℕ → List (CallData × ReplyData)
made_of names passes name = made_at passes (session_of names name)

-- a reply that makes no entry
no_entry : (reply : ReplyData) → makes_entry reply ≡ false → (reply ≡ refused JournalFull) ⊎ (reply ≡ refused NoMemory)
no_entry (refused JournalFull) none = inl refl
no_entry (refused NoMemory) none = inr refl
no_entry (refused BadLine) none = absurd (cc)
no_entry (refused NoSuchTrace) none = absurd (cc)
no_entry (refused NameTaken) none = absurd (cc)
no_entry (refused TooManyTraces) none = absurd (cc)
no_entry (refused BadDeclaration) none = absurd (cc)
no_entry (refused NoSuchProcess) none = absurd (cc)
no_entry (refused ProcessTaken) none = absurd (cc)
no_entry (refused NotClaimed) none = absurd (cc)
no_entry (refused NotOwner) none = absurd (cc)
no_entry (refused NoSuchCell) none = absurd (cc)
no_entry (refused WidthMismatch) none = absurd (cc)
no_entry (refused ValueOutOfRange) none = absurd (cc)
no_entry (refused SequenceFull) none = absurd (cc)
no_entry (refused NoSuchMark) none = absurd (cc)
no_entry (refused TooManyMarks) none = absurd (cc)
no_entry (refused BadBudget) none = absurd (cc)
no_entry (refused TooManySessions) none = absurd (cc)
no_entry done none = absurd (cc)
no_entry (marked mark) none = absurd (cc)
no_entry (consistent schedule fixed) none = absurd (cc)
no_entry inconsistent none = absurd (cc)
no_entry undecided none = absurd (cc)
no_entry (because situations) none = absurd (cc)
no_entry (cycle lines hints) none = absurd (cc)
no_entry unknown none = absurd (cc)
no_entry (ops operations) none = absurd (cc)
no_entry (listed names) none = absurd (cc)

-- the reply to a call that the book answered
became_is : (reply : ReplyData) → reply ≢ refused BadLine → reply ≢ refused TooManySessions → became_entry reply ≡ makes_entry reply
became_is (refused BadLine) line sessions = absurd (line refl)
became_is (refused TooManySessions) line sessions = absurd (sessions refl)
became_is (refused JournalFull) line sessions = refl
became_is (refused NoMemory) line sessions = refl
became_is (refused NoSuchTrace) line sessions = refl
became_is (refused NameTaken) line sessions = refl
became_is (refused TooManyTraces) line sessions = refl
became_is (refused BadDeclaration) line sessions = refl
became_is (refused NoSuchProcess) line sessions = refl
became_is (refused ProcessTaken) line sessions = refl
became_is (refused NotClaimed) line sessions = refl
became_is (refused NotOwner) line sessions = refl
became_is (refused NoSuchCell) line sessions = refl
became_is (refused WidthMismatch) line sessions = refl
became_is (refused ValueOutOfRange) line sessions = refl
became_is (refused SequenceFull) line sessions = refl
became_is (refused NoSuchMark) line sessions = refl
became_is (refused TooManyMarks) line sessions = refl
became_is (refused BadBudget) line sessions = refl
became_is done line sessions = refl
became_is (marked mark) line sessions = refl
became_is (consistent schedule fixed) line sessions = refl
became_is inconsistent line sessions = refl
became_is undecided line sessions = refl
became_is (because situations) line sessions = refl
became_is (cycle lines hints) line sessions = refl
became_is unknown line sessions = refl
became_is (ops operations) line sessions = refl
became_is (listed names) line sessions = refl

-- what a call by a pass says of it
pub record Called (old : Known) (call : CallData) (reply : ReplyData) (new : Known) : Type 0 where
  pub number : new.number ≡ old.number
  pub made : new.made ≡ old.made ++ called call reply

called-some : (call : CallData) (reply : ReplyData) → became_entry reply ≡ true → (call, reply) ∷ [] ≡ called call reply
called-some call reply became = let one : List (CallData × ReplyData) = (call, reply) ∷ [] in let P : Bool → Type 0 = λ b. one ≡ (if b then one else []) in subst P (sym became) refl

called-none : (call : CallData) (reply : ReplyData) → became_entry reply ≡ false → [] ≡ called call reply
called-none call reply became = let one : List (CallData × ReplyData) = (call, reply) ∷ [] in let P : Bool → Type 0 = λ b. [] ≡ (if b then one else []) in subst P (sym became) refl

kept : (old new : Known) (call : CallData) (reply : ReplyData) → became_entry reply ≡ false → new.made ≡ old.made → new.made ≡ old.made ++ called call reply
kept old new call reply became same =
    same ∙ sym (append-nil old.made) ∙ ap (λ c. old.made ++ c) (called-none call reply became)

called_by : (b : Bool) (old new : Known) (call : CallData) (reply : ReplyData) → makes_entry reply ≡ b → became_entry reply ≡ b
    → IsPassCall old call reply new → Called old call reply new
called_by true old new call reply makes became answered =
    let e = answered.made makes in
    record { number = e.number; made = e.made ∙ ap (λ c. old.made ++ c) (called-some call reply became) }
called_by false old new call reply makes became answered = at (no_entry reply makes)
  where
    at : (reply ≡ refused JournalFull) ⊎ (reply ≡ refused NoMemory) → Called old call reply new
    at (inl is) = let f = answered.full is in record { number = f.number; made = kept old new call reply became f.made }
    at (inr is) =
        let same = answered.unchanged is in
        record { number = ap (λ (p : Known). p.number) same; made = kept old new call reply became (ap (λ (p : Known). p.made) same) }

pub Called-from : (old new : Known) (call : CallData) (reply : ReplyData) → IsPassCall old call reply new → Called old call reply new
Called-from old new call reply answered =
    called_by (makes_entry reply) old new call reply refl (became_is reply answered.good answered.sessions) answered

-- ---- a pass among the others

-- the calls of a name's line that became an entry, by whether it is the name asked for
abbrev pub entry_if : Bool → CallData → ReplyData → List (CallData × ReplyData)
entry_if is call reply = if is && became_entry reply then (call, reply) ∷ [] else []

entry_if-true : (b : Bool) (call : CallData) (reply : ReplyData) → b ≡ true → entry_if b call reply ≡ called call reply
entry_if-true b call reply is = ap (λ c. entry_if c call reply) is

entry_if-false : (b : Bool) (call : CallData) (reply : ReplyData) → b ≡ false → entry_if b call reply ≡ []
entry_if-false b call reply is = ap (λ c. entry_if c call reply) is

pub first_session : (n : List ℕ) (names : List (List ℕ)) (name : List ℕ) → name_eq name n ≡ true → session_of (n ∷ names) name ≡ 0
first_session n names name found = rw found refl

pub next_session : (n : List ℕ) (names : List (List ℕ)) (name : List ℕ) → name_eq name n ≡ false → session_of (n ∷ names) name ≡ suc (session_of names name)
next_session n names name other = rw other (omega arith)

pub made_first : (n : List ℕ) (names : List (List ℕ)) (p : Known) (passes : List Known) (name : List ℕ) → name_eq name n ≡ true
    → made_of (n ∷ names) (p ∷ passes) name ≡ p.made
made_first n names p passes name found = ap (λ k. made_at (p ∷ passes) k) (first_session n names name found)

pub made_next : (n : List ℕ) (names : List (List ℕ)) (p : Known) (passes : List Known) (name : List ℕ) → name_eq name n ≡ false
    → made_of (n ∷ names) (p ∷ passes) name ≡ made_of names passes name
made_next n names p passes name other = ap (λ k. made_at (p ∷ passes) k) (next_session n names name other)

-- where the pass of the name made this call, what each name's session made
made-set : (names : List (List ℕ)) (passes : List Known) (place : ℕ) (name other : List ℕ) (pass : Known) (call : CallData) (reply : ReplyData)
    → length passes ≡ length names → place ≡ session_of names name → place < length passes → pass.made ≡ made_at passes place ++ called call reply
    → made_of names (set passes place pass) other ≡ made_of names passes other ++ entry_if (name_eq other name) call reply
made-set [] [] place name other pass call reply same is within made = absurd (omega arith)
made-set [] (p ∷ passes) place name other pass call reply same is within made = absurd (omega arith)
made-set (n ∷ names) [] place name other pass call reply same is within made = absurd (omega arith)
made-set (n ∷ names) (p ∷ passes) place name other pass call reply same is within made =
    at (name_eq name n) (name_eq other n) place (λ k k_is k_within k_made. made-set names passes k name other pass call reply (omega arith) k_is k_within k_made)
    refl refl is within made
  where
    -- the same of the others
    Others : Type 0
    Others = (k : ℕ) → k ≡ session_of names name → k < length passes → pass.made ≡ made_at passes k ++ called call reply
        → made_of names (set passes k pass) other ≡ made_of names passes other ++ entry_if (name_eq other name) call reply

    first : (b c : Bool) → name_eq name n ≡ true → name_eq other n ≡ b → name_eq other name ≡ c
        → pass.made ≡ p.made ++ called call reply
        → made_of (n ∷ names) (pass ∷ passes) other ≡ made_of (n ∷ names) (p ∷ passes) other ++ entry_if (name_eq other name) call reply
    first true true named found eq made =
        made_first n names pass passes other found ∙ made ∙ ap (λ c. p.made ++ c) (sym (entry_if-true (name_eq other name) call reply eq))
        ∙ ap (λ m. m ++ entry_if (name_eq other name) call reply) (sym (made_first n names p passes other found))
    first false false named found eq made =
        made_next n names pass passes other found ∙ sym (append-nil (made_of names passes other))
        ∙ ap (λ c. made_of names passes other ++ c) (sym (entry_if-false (name_eq other name) call reply eq))
        ∙ ap (λ m. m ++ entry_if (name_eq other name) call reply) (sym (made_next n names p passes other found))
    first true false named found eq made =
        absurd (other_text other name (sym eq) (same_name other n found ∙ sym (same_name name n named)))
    first false true named found eq made =
        absurd (other_text other n (sym found) (same_name other name eq ∙ same_name name n named))

    later : (b : Bool) (place : ℕ) → Others → name_eq name n ≡ false → name_eq other n ≡ b → place ≡ session_of names name → place < length passes
        → pass.made ≡ made_at passes place ++ called call reply
        → made_of (n ∷ names) (p ∷ set passes place pass) other ≡ made_of (n ∷ names) (p ∷ passes) other ++ entry_if (name_eq other name) call reply
    later true place others named found is within made = differ (name_eq other name) refl
      where
        differ : (c : Bool) → name_eq other name ≡ c
            → made_of (n ∷ names) (p ∷ set passes place pass) other ≡ made_of (n ∷ names) (p ∷ passes) other ++ entry_if (name_eq other name) call reply
        differ true eq = absurd (other_text name n (sym named) (sym (same_name other name eq) ∙ same_name other n found))
        differ false eq =
            made_first n names p (set passes place pass) other found ∙ sym (append-nil p.made)
            ∙ ap (λ c. p.made ++ c) (sym (entry_if-false (name_eq other name) call reply eq))
            ∙ ap (λ m. m ++ entry_if (name_eq other name) call reply) (sym (made_first n names p passes other found))
    later false place others named found is within made =
        made_next n names p (set passes place pass) other found ∙ others place is within made
        ∙ ap (λ m. m ++ entry_if (name_eq other name) call reply) (sym (made_next n names p passes other found))

    at : (b c : Bool) (place : ℕ) → Others → name_eq name n ≡ b → name_eq other n ≡ c → place ≡ session_of (n ∷ names) name → place < length (p ∷ passes)
        → pass.made ≡ made_at (p ∷ passes) place ++ called call reply
        → made_of (n ∷ names) (set (p ∷ passes) place pass) other ≡ made_of (n ∷ names) (p ∷ passes) other ++ entry_if (name_eq other name) call reply
    at true c zero others named found is within made = first c (name_eq other name) named found refl made
    at true c (suc place) others named found is within made = let none : suc place ≡ 0 = is ∙ first_session n names name named in absurd (omega arith)
    at false c zero others named found is within made = let some : 0 ≡ suc (session_of names name) = is ∙ next_session n names name named in absurd (omega arith)
    at false c (suc place) others named found is within made =
        let some : suc place ≡ suc (session_of names name) = is ∙ next_session n names name named in
        later c place others named found (omega arith) (omega arith) made

-- a new pass made nothing
pub made-push : (names : List (List ℕ)) (passes : List Known) (name other : List ℕ) (number : ℕ) → length passes ≡ length names
    → made_of (names ++ name ∷ []) (passes ++ newcomer number ∷ []) other ≡ made_of names passes other
made-push [] [] name other number same = at (name_eq other name) refl
  where
    at : (b : Bool) → name_eq other name ≡ b → made_of (name ∷ []) (newcomer number ∷ []) other ≡ []
    at true found = rw found refl
    at false found = rw found refl
made-push [] (p ∷ passes) name other number same = absurd (omega arith)
made-push (n ∷ names) [] name other number same = absurd (omega arith)
made-push (n ∷ names) (p ∷ passes) name other number same = at (name_eq other n) (made-push names passes name other number (omega arith)) refl
  where
    at : (b : Bool) → made_of (names ++ name ∷ []) (passes ++ newcomer number ∷ []) other ≡ made_of names passes other → name_eq other n ≡ b
        → made_of (n ∷ names ++ name ∷ []) (p ∷ passes ++ newcomer number ∷ []) other ≡ made_of (n ∷ names) (p ∷ passes) other
    at true others found =
        made_first n (names ++ name ∷ []) p (passes ++ newcomer number ∷ []) other found ∙ sym (made_first n names p passes other found)
    at false others found =
        made_next n (names ++ name ∷ []) p (passes ++ newcomer number ∷ []) other found ∙ others ∙ sym (made_next n names p passes other found)

-- ---- numbers

pub numbered-push : (from : ℕ) (passes : List Known) (number : ℕ) → number ≡ from + length passes → AreNumberedFrom from passes
    → AreNumberedFrom from (passes ++ newcomer number ∷ [])
numbered-push from [] number is numbered = (omega arith, tt)
numbered-push from (p ∷ passes) number is numbered = (numbered.0, numbered-push (from + 1) passes number (omega arith) numbered.1)

abbrev pub number_at : ℕ → List Known → ℕ → ℕ
number_at from passes place = option_map_or (λ pass. pass.number) (slice_get passes place) from

pub numbered-set : (from : ℕ) (passes : List Known) (place : ℕ) (pass : Known) → place < length passes → pass.number ≡ number_at from passes place
    → AreNumberedFrom from passes → AreNumberedFrom from (set passes place pass)
numbered-set from [] place pass within same numbered = absurd (omega arith)
numbered-set from (p ∷ passes) zero pass within same numbered = (same ∙ numbered.0, numbered.1)
numbered-set from (p ∷ passes) (suc place) pass within same numbered =
    (numbered.0, numbered-set (from + 1) passes place pass (omega arith) (same ∙ at (slice_get_some passes place (omega arith))) numbered.1)
  where
    slice_get_some : (passes : List Known) (place : ℕ) → place < length passes → (q : Known) × (slice_get passes place ≡ Some q)
    slice_get_some [] place within = absurd (omega arith)
    slice_get_some (q ∷ passes) zero within = (q, refl)
    slice_get_some (q ∷ passes) (suc place) within = slice_get_some passes place (omega arith)

    at : (q : Known) × (slice_get passes place ≡ Some q) → number_at from passes place ≡ number_at (from + 1) passes place
    at some = rw some.1 refl

-- ---- a call of the session at a place

module _ (names : List (List ℕ)) (passes later : List Known) (place : ℕ) (name : List ℕ) (pass : Known) (call : CallData) (reply : ReplyData)
    (count : length passes ≡ length names) (is_place : place ≡ session_of names name) (within : place < length passes)
    (old : Known) (is_old : old ≡ get_or passes place old) (is_later : later ≡ set passes place pass) (is_called : Called old call reply pass) where
  there : slice_get passes place ≡ Some old
  there = slice_get_read passes (length passes) place old refl within is_old

  made_there : pass.made ≡ made_at passes place ++ called call reply
  made_there = is_called.made ∙ ap (λ o. option_map_or (λ (p : Known). p.made) o [] ++ called call reply) (sym there)

  number_there : pass.number ≡ number_at 0 passes place
  number_there = is_called.number ∙ ap (λ o. option_map_or (λ (p : Known). p.number) o 0) (sym there)

  pub called_invariant : length names ≤ MOST_SESSIONS → AreNumberedFrom 0 passes
      → (length names ≤ MOST_SESSIONS) × (length later ≡ length names) × AreNumberedFrom 0 later
  called_invariant most numbered =
      (most, ap length is_later ∙ length-set passes place pass ∙ count, subst (AreNumberedFrom 0) (sym is_later) (numbered-set 0 passes place pass within number_there numbered))

  called_since : reply ≢ refused BadLine → MakesCall (callers names passes) name call reply (callers names later)
  called_since fits = record {
    reply_is = fits;
    made = λ other. ap (λ (ps : List Known). made_by (callers names ps) other) is_later
        ∙ made-set names passes place name other pass call reply count is_place within made_there;
  }

  -- the same, from where the name entered
  pub called_makes : (start : Callers) → ((other : List ℕ) → made_by (callers names passes) other ≡ made_by start other) → reply ≢ refused BadLine
      → MakesCall start name call reply (callers names later)
  called_makes start entered fits = record {
    reply_is = fits;
    made = λ other. (called_since fits).made other ∙ ap (λ m. m ++ entry_if (name_eq other name) call reply) (entered other);
  }

-- a call that is refused before the book saw it
nothing_made : (b : Bool) (call : CallData) (reply : ReplyData) → became_entry reply ≡ false → [] ≡ entry_if b call reply
nothing_made true call reply none = called-none call reply none
nothing_made false call reply none = refl

refused_by : (old new : Callers) (name : List ℕ) (call : CallData) (refusal : Refusal) → became_entry (refused refusal) ≡ false
    → refused refusal ≢ refused BadLine → ((other : List ℕ) → made_by new other ≡ made_by old other) → MakesCall old name call (refused refusal) new
refused_by old new name call refusal none fits made = record {
  reply_is = fits;
  made = λ other. made other ∙ sym (append-nil (made_by old other))
      ∙ ap (λ e. made_by old other ++ e) (nothing_made (name_eq other name) call (refused refusal) none);
}

pub refused_makes : (old new : Callers) (name : List ℕ) (call : CallData) (refusal : Refusal) → (refusal ≡ TooManySessions) ⊎ (refusal ≡ NoMemory)
    → ((other : List ℕ) → made_by new other ≡ made_by old other) → MakesCall old name call (refused refusal) new
refused_makes old new name call refusal (inl is) made =
    let P : Refusal → Type 0 = λ r. MakesCall old name call (refused r) new in
    subst P (sym is) (refused_by old new name call TooManySessions refl (λ same. absurd (cc)) made)
refused_makes old new name call refusal (inr is) made =
    let P : Refusal → Type 0 = λ r. MakesCall old name call (refused r) new in
    subst P (sym is) (refused_by old new name call NoMemory refl (λ same. absurd (cc)) made)
