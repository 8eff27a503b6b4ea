-- What a run found, line by line.
use Rattle.std.proofs.Common.{◌≡◌, ℕ, ◌+◌, List, [], ◌∷◌, ◌++◌, refl, sym, ap, ◌∙◌, subst, arith, Bool, true, false, ◌||◌, if◌then◌else◌, Option, None, Some, is_some, length, length-append, filter, true≢false}
use Rattle.std.specs.List.{list_any, zip}
use Rattle.std.specs.Option.{option_map, option_or}
use Rattle.std.specs.Prelude.{slice_get, drop}
use Rattle.std.proofs.lemmas.List.{map-append}
use Rattle.std.proofs.lemmas.List.Folds.{list_any-append}
use Rattle.scm_results.specs.Totals.{capped}
use Rattle.scm_book.specs.Machine.{ReplyData}
use Rattle.scm_sessions.specs.declared.findings.Findings.{Findings}
use Rattle.scm_sessions.specs.declared.findings.RefusedLine.{RefusedLine}
use Rattle.scm_sessions.specs.Asking.{Line, AskedData, asked_by}
use Rattle.scm_sessions.specs.Script.{Exchange, has_reply, asked_in, asked_of}
use Rattle.scm_sessions.specs.inner.Findings.{replies_of, numbers_from, refusal_of_reply, refused_line, first_refused, answers_inconsistent, answers_undecided, findings_of, with_answer}

cons≢nil : {X : Type 0} (x : X) (xs : List X) → x ∷ xs ≡ [] → ⊥
cons≢nil {X = X} x xs e = true≢false (ap (λ (ys : List X). is_some (slice_get ys 0)) e)

option_or_assoc : {X : Type 0} (a b c : Option X) → option_or a (option_or b c) ≡ option_or (option_or a b) c
option_or_assoc None b c = refl
option_or_assoc (Some x) b c = refl

option_or_none : {X : Type 0} (a : Option X) → option_or a None ≡ a
option_or_none None = refl
option_or_none (Some x) = refl

pub or_none : (x : Bool) → (x || false) ≡ x
or_none true = refl
or_none false = refl

or_last : (x b : Bool) → (x || (b || false)) ≡ (if b then true else x)
or_last true true = refl
or_last true false = refl
or_last false true = refl
or_last false false = refl

-- ---- the first refused line

-- the line that is refused first among these, whose first one has this number
abbrev first_from : ℕ → List Line → List Exchange → Option RefusedLine
first_from n lines exchanges = first_refused (zip (numbers_from n lines) (replies_of exchanges))

-- the same where it is known whether the first line has a reply
abbrev first_where : Bool → ℕ → List Line → List Exchange → Option RefusedLine
first_where has n lines exchanges =
    first_refused (zip (if has then n ∷ numbers_from (n + 1) lines else numbers_from (n + 1) lines) (replies_of exchanges))

abbrev asked_where : Bool → AskedData → List AskedData → List AskedData
asked_where has asked others = if has then asked ∷ others else others

-- exchanges of these lines go on by a line
abbrev Appends : ℕ → List Line → Line → List Exchange → Type 0
Appends n lines line more = (exchanges : List Exchange) → asked_of exchanges ≡ asked_in lines
    → first_from n (lines ++ line ∷ []) (exchanges ++ more) ≡ option_or (first_from n lines exchanges) (first_from (n + length lines) (line ∷ []) more)

append_where : (has : Bool) (n : ℕ) (asked : AskedData) (lines : List Line) (line : Line) (more : List Exchange) (exchanges : List Exchange)
    → asked_of exchanges ≡ asked_where has asked (asked_in lines) → Appends (n + 1) lines line more
    → first_where has n (lines ++ line ∷ []) (exchanges ++ more)
    ≡ option_or (first_where has n lines exchanges) (first_from (n + 1 + length lines) (line ∷ []) more)
append_where false n asked lines line more exchanges same ih = ih exchanges same
append_where true n asked lines line more [] same ih = absurd (cons≢nil asked (asked_in lines) (sym same))
append_where true n asked lines line more (e ∷ exchanges) same ih =
    let tail : asked_of exchanges ≡ asked_in lines = ap (λ (xs : List AskedData). drop 1 xs) same in
    ap (option_or (refused_line n e.reply)) (ih exchanges tail)
    ∙ option_or_assoc (refused_line n e.reply) (first_from (n + 1) lines exchanges) (first_from (n + 1 + length lines) (line ∷ []) more)

first-append : (lines : List Line) (n : ℕ) (line : Line) (more : List Exchange) → Appends n lines line more
first-append [] n line more [] same = let is : n ≡ n + 0 = omega arith in ap (λ k. first_from k (line ∷ []) more) is
first-append [] n line more (e ∷ exchanges) same = absurd (cons≢nil e.asked (asked_of exchanges) same)
first-append (l ∷ lines) n line more exchanges same =
    let is : n + 1 + length lines ≡ n + length (l ∷ lines) = omega arith in
    append_where (has_reply (asked_by l)) n (asked_by l) lines line more exchanges same (first-append lines (n + 1) line more)
    ∙ ap (λ k. option_or (first_from n (l ∷ lines) exchanges) (first_from k (line ∷ []) more)) is

-- ---- all findings

abbrev pub findings : ℕ → Option RefusedLine → Bool → Bool → Findings
findings lines refused is_inconsistent is_undecided =
    record { lines = lines; refused = refused; is_inconsistent = is_inconsistent; is_undecided = is_undecided }

pub same_findings : (a b : ℕ) (r s : Option RefusedLine) (i j u v : Bool) → a ≡ b → r ≡ s → i ≡ j → u ≡ v → findings a r i u ≡ findings b s j v
same_findings a b r s i j u v lines refused inconsistent undecided =
    ap (λ x. findings x r i u) lines ∙ ap (λ x. findings b x i u) refused ∙ ap (λ x. findings b s x u) inconsistent ∙ ap (λ x. findings b s j x) undecided

pub capped_more : (lines : List Line) (line : Line) → capped (length (lines ++ line ∷ [])) ≡ capped (capped (length lines) + 1)
capped_more lines line = simp length-append (omega arith)

any-append : (test : ReplyData → Bool) (exchanges more : List Exchange)
    → list_any test (replies_of (exchanges ++ more)) ≡ (list_any test (replies_of exchanges) || list_any test (replies_of more))
any-append test exchanges more =
    ap (list_any test) (map-append (λ (e : Exchange). e.reply) exchanges more) ∙ list_any-append test (replies_of exchanges) (replies_of more)

-- the last line's refusal
last_refused : (lines : List Line) (line : Line) (e : Exchange) → has_reply (asked_by line) ≡ true
    → first_from (1 + length lines) (line ∷ []) (e ∷ []) ≡ refused_line (capped (capped (length lines) + 1)) e.reply
last_refused lines line e has =
    let number : capped (1 + length lines) ≡ capped (capped (capped (length lines) + 1)) = omega arith in
    ap (λ (b : Bool). first_refused (zip (if b then (1 + length lines) ∷ [] else []) (replies_of (e ∷ [])))) has
    ∙ option_or_none (refused_line (1 + length lines) e.reply)
    ∙ ap (λ n. option_map (λ refusal. record { number = n; refusal = refusal }) (refusal_of_reply e.reply)) number

none_refused : (lines : List Line) (line : Line) → has_reply (asked_by line) ≡ false → first_from (1 + length lines) (line ∷ []) [] ≡ None
none_refused lines line has = ap (λ (b : Bool). first_refused (zip (if b then (1 + length lines) ∷ [] else []) (replies_of []))) has

found_where : (has : Bool) (lines : List Line) (exchanges : List Exchange) (line : Line) (more : List Exchange) → has_reply (asked_by line) ≡ has
    → asked_of exchanges ≡ asked_in lines → asked_of more ≡ asked_where has (asked_by line) []
    → findings_of (lines ++ line ∷ []) (exchanges ++ more) ≡ with_answer (findings_of lines exchanges) (replies_of more)
found_where false lines exchanges line [] has same alone =
    same_findings _ _ _ _ _ _ _ _ (capped_more lines line)
    (first-append lines 1 line [] exchanges same ∙ ap (option_or (first_from 1 lines exchanges)) (none_refused lines line has) ∙ option_or_none (first_from 1 lines exchanges))
    (any-append answers_inconsistent exchanges [] ∙ or_none (list_any answers_inconsistent (replies_of exchanges)))
    (any-append answers_undecided exchanges [] ∙ or_none (list_any answers_undecided (replies_of exchanges)))
found_where false lines exchanges line (e ∷ more) has same alone = absurd (cons≢nil e.asked (asked_of more) alone)
found_where true lines exchanges line [] has same alone = absurd (cons≢nil (asked_by line) [] (sym alone))
found_where true lines exchanges line (e ∷ []) has same alone =
    same_findings _ _ _ _ _ _ _ _ (capped_more lines line)
    (first-append lines 1 line (e ∷ []) exchanges same ∙ ap (option_or (first_from 1 lines exchanges)) (last_refused lines line e has))
    (any-append answers_inconsistent exchanges (e ∷ []) ∙ or_last (list_any answers_inconsistent (replies_of exchanges)) (answers_inconsistent e.reply))
    (any-append answers_undecided exchanges (e ∷ []) ∙ or_last (list_any answers_undecided (replies_of exchanges)) (answers_undecided e.reply))
found_where true lines exchanges line (e ∷ other ∷ more) has same alone =
    absurd (cons≢nil other.asked (asked_of more) (ap (λ (xs : List AskedData). drop 1 xs) alone))

-- one more line, with its exchange where it has one
pub found_more : (lines : List Line) (exchanges : List Exchange) (line : Line) (more : List Exchange)
    → asked_of exchanges ≡ asked_in lines → asked_of more ≡ filter has_reply (asked_by line ∷ [])
    → findings_of (lines ++ line ∷ []) (exchanges ++ more) ≡ with_answer (findings_of lines exchanges) (replies_of more)
found_more lines exchanges line more same alone = found_where (has_reply (asked_by line)) lines exchanges line more refl same alone
