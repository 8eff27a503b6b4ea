-- What was found in lines that are answered in any order.
use Rattle.std.proofs.Common.{◌≡◌, ℕ, ◌+◌, ◌<◌, List, [], ◌∷◌, ◌++◌, refl, sym, ap, ap₂, ◌∙◌, arith, Bool, true, false, ◌||◌, if◌then◌else◌, nat_le, Option, None, Some, length, map, take, get_or}
use Rattle.std.specs.List.{list_any, zip}
use Rattle.std.proofs.lemmas.Bool.{leb-true, leb-false, le-leb, lt-leb}
use Rattle.std.proofs.lemmas.List.{map-append}
use Rattle.std.proofs.lemmas.List.Folds.{list_any-append}
use Rattle.std.proofs.lemmas.List.Sums.{fold_more}
use Rattle.scm_book.specs.Machine.{ReplyData}
use Rattle.scm_sessions.specs.declared.findings.Findings.{Findings}
use Rattle.scm_sessions.specs.declared.findings.RefusedLine.{RefusedLine}
use Rattle.scm_sessions.specs.Asking.{Line}
use Rattle.scm_sessions.specs.Script.{Exchange, asked_of}
use Rattle.scm_sessions.specs.inner.Numbered.{Numbered, numbered_in, all_asked, all_numbers}
use Rattle.scm_sessions.specs.inner.Findings.{replies_of, refused_line, answers_inconsistent, answers_undecided, earlier, earliest_refused, unanswered, found_in, with_findings}
use Rattle.scm_sessions.specs.inner.Groups.{grouped}
use Rattle.scm_sessions.specs.inner.Jobs.{JobData, with_jobs, lines_in, exchanges_in, replies_in}
use Rattle.scm_sessions.specs.inner.EachRuns.{group_findings_of}
use Rattle.scm_sessions.proofs.Finding.{same_findings, or_none}

-- ---- the earlier one of two refused lines

earlier-none : (line : Option RefusedLine) → earlier line None ≡ line
earlier-none None = refl
earlier-none (Some line) = refl

-- two lines, where it is known which number is the smaller one
abbrev one_of : Bool → RefusedLine → RefusedLine → Option RefusedLine
one_of first line other = if first then Some line else Some other

earlier-some : (a b c : RefusedLine) → earlier (Some a) (earlier (Some b) (Some c)) ≡ earlier (earlier (Some a) (Some b)) (Some c)
earlier-some a b c = at (nat_le a.number b.number) (nat_le b.number c.number) refl refl
  where
    left : (bc : Bool) → nat_le b.number c.number ≡ bc → earlier (Some a) (earlier (Some b) (Some c)) ≡ earlier (Some a) (one_of bc b c)
    left bc is = ap (λ x. earlier (Some a) (one_of x b c)) is

    right : (ab : Bool) → nat_le a.number b.number ≡ ab → earlier (one_of ab a b) (Some c) ≡ earlier (earlier (Some a) (Some b)) (Some c)
    right ab is = ap (λ x. earlier (one_of x a b) (Some c)) (sym is)

    at : (ab bc : Bool) → nat_le a.number b.number ≡ ab → nat_le b.number c.number ≡ bc
        → earlier (Some a) (earlier (Some b) (Some c)) ≡ earlier (earlier (Some a) (Some b)) (Some c)
    at true true ab bc =
        let ac : nat_le a.number c.number ≡ true =
        le-leb a.number c.number (omega (arith, leb-true a.number b.number ab, leb-true b.number c.number bc)) in
        left true bc ∙ ap (λ x. one_of x a b) ab ∙ sym (ap (λ x. one_of x a c) ac) ∙ right true ab
    at true false ab bc = left false bc ∙ right true ab
    at false true ab bc = left true bc ∙ ap (λ x. one_of x a b) ab ∙ sym (ap (λ x. one_of x b c) bc) ∙ right false ab
    at false false ab bc =
        let ac : nat_le a.number c.number ≡ false =
        lt-leb a.number c.number (omega (arith, leb-false a.number b.number ab, leb-false b.number c.number bc)) in
        left false bc ∙ ap (λ x. one_of x a c) ac ∙ sym (ap (λ x. one_of x b c) bc) ∙ right false ab

earlier-assoc : (a b c : Option RefusedLine) → earlier a (earlier b c) ≡ earlier (earlier a b) c
earlier-assoc None b c = refl
earlier-assoc (Some a) None c = refl
earlier-assoc (Some a) (Some b) None = sym (earlier-none (earlier (Some a) (Some b)))
earlier-assoc (Some a) (Some b) (Some c) = earlier-some a b c

earliest-append : (xs ys : List (ℕ × ReplyData)) → earlier (earliest_refused xs) (earliest_refused ys) ≡ earliest_refused (xs ++ ys)
earliest-append [] ys = refl
earliest-append (x ∷ xs) ys =
    sym (earlier-assoc (refused_line x.0 x.1) (earliest_refused xs) (earliest_refused ys)) ∙ ap (earlier (refused_line x.0 x.1)) (earliest-append xs ys)

-- ---- all findings

or-assoc : (a b c : Bool) → (a || (b || c)) ≡ ((a || b) || c)
or-assoc true b c = refl
or-assoc false b c = refl

any-append : (test : ReplyData → Bool) (xs ys : List (ℕ × ReplyData))
    → (list_any test (map (λ line. line.1) xs) || list_any test (map (λ line. line.1) ys)) ≡ list_any test (map (λ line. line.1) (xs ++ ys))
any-append test xs ys =
    sym (ap (list_any test) (map-append (λ (line : ℕ × ReplyData). line.1) xs ys)
    ∙ list_any-append test (map (λ (line : ℕ × ReplyData). line.1) xs) (map (λ (line : ℕ × ReplyData). line.1) ys))

pub with_none : (found : Findings) → with_findings found (found_in []) ≡ found
with_none found =
    same_findings _ _ _ _ _ _ _ _ refl (earlier-none found.refused) (or_none found.is_inconsistent) (or_none found.is_undecided)

pub with_both : (found : Findings) (xs ys : List (ℕ × ReplyData))
    → with_findings (with_findings found (found_in xs)) (found_in ys) ≡ with_findings found (found_in (xs ++ ys))
with_both found xs ys =
    same_findings _ _ _ _ _ _ _ _ refl
    (sym (earlier-assoc found.refused (earliest_refused xs) (earliest_refused ys)) ∙ ap (earlier found.refused) (earliest-append xs ys))
    (sym (or-assoc found.is_inconsistent _ _) ∙ ap (λ b. found.is_inconsistent || b) (any-append answers_inconsistent xs ys))
    (sym (or-assoc found.is_undecided _ _) ∙ ap (λ b. found.is_undecided || b) (any-append answers_undecided xs ys))

-- the findings of one more job
pub one_job_more : (jobs : List JobData) (i : ℕ) (d job : JobData) (start before after : Findings) → before ≡ with_jobs start (take i jobs)
    → after ≡ with_findings before job.found → i < length jobs → job ≡ get_or jobs i d → after ≡ with_jobs start (take (i + 1) jobs)
one_job_more jobs i d job start before after had more within same =
    more ∙ ap₂ (λ (f : Findings) (j : JobData). with_findings f j.found) had same
    ∙ sym (fold_more (λ (f : Findings) (j : JobData). with_findings f j.found) start jobs i d within)

-- ---- the replies to numbered lines

pub asked_lines : (answered : List (ℕ × Exchange)) → asked_of (exchanges_in answered) ≡ all_asked (lines_in answered)
asked_lines [] = refl
asked_lines (a ∷ answered) = ap (λ asked. a.1.asked ∷ asked) (asked_lines answered)

zipped : (answered : List (ℕ × Exchange)) → zip (all_numbers (lines_in answered)) (replies_of (exchanges_in answered)) ≡ replies_in answered
zipped [] = refl
zipped (a ∷ answered) = ap (λ (lines : List (ℕ × ReplyData)). (a.0, a.1.reply) ∷ lines) (zipped answered)

replies_are : (answered : List (ℕ × Exchange)) → map (λ line. line.1) (replies_in answered) ≡ replies_of (exchanges_in answered)
replies_are [] = refl
replies_are (a ∷ answered) = ap (λ replies. a.1.reply ∷ replies) (replies_are answered)

-- what was found in the lines of a script, group after group
pub found_grouped : (lines : List Line) (exchanges : List Exchange) (answered : List (ℕ × Exchange)) (found : Findings)
    → exchanges_in answered ≡ exchanges → lines_in answered ≡ grouped (numbered_in lines)
    → found ≡ with_findings (unanswered (length lines)) (found_in (replies_in answered)) → found ≡ group_findings_of lines exchanges
found_grouped lines exchanges answered found these all is =
    let numbers : zip (all_numbers (grouped (numbered_in lines))) (replies_of exchanges) ≡ replies_in answered =
    ap₂ (λ (ls : List Numbered) (es : List Exchange). zip (all_numbers ls) (replies_of es)) (sym all) (sym these) ∙ zipped answered in
    let replies : map (λ line. line.1) (replies_in answered) ≡ replies_of exchanges = replies_are answered ∙ ap replies_of these in
    is
    ∙ same_findings _ _ _ _ _ _ _ _ refl (ap earliest_refused (sym numbers)) (ap (list_any answers_inconsistent) replies)
    (ap (list_any answers_undecided) replies)
