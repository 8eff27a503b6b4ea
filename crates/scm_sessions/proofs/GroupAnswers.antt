-- What the groups of a script asked, once each of their lines was answered.
use Rattle.std.proofs.Common.{◌≡◌, ℕ, suc, ◌+◌, List, [], ◌∷◌, ◌++◌, length, refl, inl, inr, sym, ap, ap₂, ◌∙◌, subst, append-nil, Bool, true, false, ◌&&◌, if◌then◌else◌, Option, None, Some, flat_map}
use Rattle.std.specs.Option.{option_eq}
use Rattle.std.specs.List.{list_any}
use Rattle.std.proofs.lemmas.List.{map-append}
use Rattle.std.proofs.lemmas.List.Elements.{All-nil, All-append}
use Rattle.std.proofs.lemmas.Grind.{flat_map-append}
use Rattle.std.proofs.lemmas.Bool.{or_parts}
use Rattle.scm_cells.specs.CellLists.{name_eq}
use Rattle.scm_book.specs.Machine.{CallData, ReplyData}
use Rattle.scm_shared.specs.Passes.{Known, newcomer}
use Rattle.scm_sessions.specs.Asking.{AskedData, nothing, bad, good, name_in}
use Rattle.scm_sessions.specs.Script.{reply_line, Exchange, asked_of, replies_text}
use Rattle.scm_sessions.specs.declared.findings.Findings.{Findings}
use Rattle.scm_sessions.specs.inner.Numbered.{Numbered, numbered, all_asked}
use Rattle.scm_sessions.specs.inner.Findings.{replies_of, found_in, with_findings}
use Rattle.scm_sessions.specs.inner.SharedRuns.{FitsAsked, AllFit, became_entry, entry_in, entries_of}
use Rattle.scm_sessions.specs.inner.Callers.{callers, AreNumberedFrom, made_by}
use Rattle.scm_sessions.specs.inner.Gathered.{made_in, pass_number, entry_for}
use Rattle.scm_sessions.specs.inner.Groups.{GroupData, has_name}
use Rattle.scm_sessions.specs.inner.Jobs.{JobData, begun, is_call, AreBegun, entries_for, lines_in, exchanges_in, replies_in, AnsweredWhole, AllAnswered, job_text, jobs_text, names_in, passes_in, entered_names, entered_passes, with_jobs}
use Rattle.scm_sessions.proofs.Grouping.{is_in}
use Rattle.scm_sessions.proofs.Making.{same_name, name_eq-refl, made_first, made_next}
use Rattle.scm_sessions.proofs.GroupNames.{AreOf, AreApart, same_option}
use Rattle.scm_sessions.proofs.Merging.{with_none as finds_none, with_both, asked_lines}
use Rattle.scm_sessions.proofs.Replying.{list_any-map}

-- ---- the exchanges of lines of one name

some_name : (one other : List ℕ) → Some one ≡ Some other → one ≡ other
some_name one other is = cc

own_entry : (name n : List ℕ) (a : AskedData) (reply : ReplyData) → name_eq name n ≡ true → name_in a ≡ Some n → entry_in name a reply ≡ entry_for a reply
own_entry name n nothing reply found named = refl
own_entry name n (bad other) reply found named = refl
own_entry name n (good caller call) reply found named =
    let one : List (CallData × ReplyData) = (call, reply) ∷ [] in
    ap (λ b. if b && became_entry reply then one else []) (ap (name_eq name) (some_name caller n named) ∙ found)

other_entry : (name : List ℕ) (of : Option (List ℕ)) (a : AskedData) (reply : ReplyData) → option_eq name_eq (Some name) of ≡ false → name_in a ≡ of
    → entry_in name a reply ≡ []
other_entry name of nothing reply other named = refl
other_entry name of (bad n) reply other named = refl
other_entry name of (good caller call) reply other named =
    let one : List (CallData × ReplyData) = (call, reply) ∷ [] in
    ap (λ b. if b && became_entry reply then one else []) (ap (option_eq name_eq (Some name)) named ∙ other)

own_entries : (name n : List ℕ) (exchanges : List Exchange) → name_eq name n ≡ true → AreOf (Some n) (asked_of exchanges)
    → entries_of name exchanges ≡ entries_for exchanges
own_entries name n [] found are = refl
own_entries name n (e ∷ exchanges) found are =
    ap₂ ◌++◌ (own_entry name n e.asked e.reply found are.1) (own_entries name n exchanges found are.2)

other_entries : (name : List ℕ) (of : Option (List ℕ)) (exchanges : List Exchange) → option_eq name_eq (Some name) of ≡ false → AreOf of (asked_of exchanges)
    → entries_of name exchanges ≡ []
other_entries name of [] other are = refl
other_entries name of (e ∷ exchanges) other are =
    ap₂ ◌++◌ (other_entry name of e.asked e.reply other are.1) (other_entries name of exchanges other are.2)

-- their replies stand under this name
own_lines : (name : Option (List ℕ)) (exchanges : List Exchange) → AreOf name (asked_of exchanges)
    → flat_map (λ reply. reply_line name reply) (replies_of exchanges) ≡ replies_text exchanges
own_lines name [] are = refl
own_lines name (e ∷ exchanges) are =
    ap₂ ◌++◌ (ap (λ (n : Option (List ℕ)). reply_line n e.reply) (sym are.1)) (own_lines name exchanges are.2)

-- a call has a name
call_named : (name : Option (List ℕ)) (asked : List AskedData) → AreOf name asked → list_any is_call asked ≡ true → (n : List ℕ) × (name ≡ Some n)
call_named name [] are calls = absurd (cc)
call_named name (nothing ∷ asked) are calls = call_named name asked are.2 calls
call_named name (bad other ∷ asked) are calls = call_named name asked are.2 calls
call_named name (good n call ∷ asked) are calls = (n, sym are.1)

-- ---- a pass

no_pass : (pass : Option Known) → pass_number pass ≡ None → pass ≡ None
no_pass None is = refl
no_pass (Some pass) is = absurd (cc)

some_pass : (pass : Option Known) (number : ℕ) → pass_number pass ≡ Some number → (known : Known) × (pass ≡ Some known) × (known.number ≡ number)
some_pass None number is = absurd (cc)
some_pass (Some pass) number is = (pass, refl, cc)

no_names : (name : Option (List ℕ)) → names_in name None ≡ []
no_names None = refl
no_names (Some name) = refl

no_passes : (name : Option (List ℕ)) → passes_in name None ≡ []
no_passes None = refl
no_passes (Some name) = refl

-- ---- a group

-- the lines of a group were answered, by the session of this pass
record Has (g : GroupData) (pass : Option Known) (job : JobData) : Type 0 where
  pub answered : List (ℕ × Exchange)
  pub exchanges : List Exchange
  pub these : exchanges_in answered ≡ exchanges
  pub lines : lines_in answered ≡ g.lines
  pub asked : asked_of exchanges ≡ all_asked g.lines
  pub of : AreOf g.name (asked_of exchanges)
  pub name : job.name ≡ g.name
  pub text : job_text job ≡ replies_text exchanges
  pub found : (f : Findings) → with_findings f job.found ≡ with_findings f (found_in (replies_in answered))
  pub fit : AllFit exchanges
  pub made : made_in job.pass ≡ made_in pass ++ entries_for exchanges
  pub number : pass_number job.pass ≡ pass_number pass

Has-from : (g : GroupData) (pass : Option Known) (old new : JobData) → old ≡ begun g pass → AreOf g.name (all_asked g.lines) → AnsweredWhole old new → Has g pass new
Has-from g pass old new is are whole =
    let had = whole.answered in
    let exchanges : List Exchange = exchanges_in had.answered in
    let lines : lines_in had.answered ≡ g.lines =
    sym (append-nil (lines_in had.answered)) ∙ ap (λ (rest : List Numbered). lines_in had.answered ++ rest) (sym whole.ended) ∙ sym had.lines
    ∙ ap (λ (j : JobData). j.lines) is in
    let asked : asked_of exchanges ≡ all_asked g.lines = asked_lines had.answered ∙ ap all_asked lines in
    let of : AreOf g.name (asked_of exchanges) = subst (AreOf g.name) (sym asked) are in
    let name : new.name ≡ g.name = had.name ∙ ap (λ (j : JobData). j.name) is in
    let replies : new.replies ≡ replies_of exchanges = had.replies ∙ ap (λ (j : JobData). j.replies ++ replies_of exchanges) is in
    record {
      answered = had.answered;
      exchanges = exchanges;
      these = refl;
      lines = lines;
      asked = asked;
      of = of;
      name = name;
      text = ap₂ (λ (n : Option (List ℕ)) (rs : List ReplyData). flat_map (λ reply. reply_line n reply) rs) name replies
          ∙ own_lines g.name exchanges of;
      found = λ f. ap (with_findings f) (had.found ∙ ap (λ (j : JobData). with_findings j.found (found_in (replies_in had.answered))) is);
      fit = had.fit;
      made = had.made ∙ ap (λ (j : JobData). made_in j.pass ++ entries_for exchanges) is;
      number = had.number ∙ ap (λ (j : JobData). pass_number j.pass) is;
    }

-- ---- all groups

-- the lines of these groups were answered, by the sessions of passes from this number on
pub record HasAnswered (number : ℕ) (groups : List GroupData) (jobs : List JobData) : Type 0 where
  pub answered : List (ℕ × Exchange)
  pub exchanges : List Exchange
  pub these : exchanges_in answered ≡ exchanges
  pub lines : lines_in answered ≡ flat_map (λ group. group.lines) groups
  pub text : jobs_text jobs ≡ replies_text exchanges
  pub found : (f : Findings) → with_jobs f jobs ≡ with_findings f (found_in (replies_in answered))
  pub fit : AllFit exchanges
  pub numbered : AreNumberedFrom number (entered_passes jobs)
  pub each : length (entered_passes jobs) ≡ length (entered_names jobs)
  pub made : (name : List ℕ) → entries_of name exchanges ≡ made_by (callers (entered_names jobs) (entered_passes jobs)) name
  -- a name that no group has made nothing
  pub none : (name : List ℕ) → is_in groups (Some name) ≡ false → entries_of name exchanges ≡ []

entries_of-append : (name : List ℕ) (exchanges more : List Exchange) → entries_of name (exchanges ++ more) ≡ entries_of name exchanges ++ entries_of name more
entries_of-append name exchanges more = flat_map-append (λ (e : Exchange). entry_in name e.asked e.reply) exchanges more

-- what is said of the exchanges of a group and of those of the others
module _ (g : GroupData) (pass : Option Known) (job : JobData) (has : Has g pass job) (number : ℕ) (groups : List GroupData) (jobs : List JobData)
    (others : HasAnswered number groups jobs) (apart : is_in groups g.name ≡ false) where
  abbrev all : List Exchange
  all = has.exchanges ++ others.exchanges

  abbrev both : List (ℕ × Exchange)
  both = has.answered ++ others.answered

  these_all : exchanges_in both ≡ all
  these_all = map-append (λ (a : ℕ × Exchange). a.1) has.answered others.answered ∙ ap₂ ◌++◌ has.these others.these

  lines_all : lines_in both ≡ flat_map (λ group. group.lines) (g ∷ groups)
  lines_all = map-append (λ (a : ℕ × Exchange). numbered a.0 a.1.asked) has.answered others.answered ∙ ap₂ ◌++◌ has.lines others.lines

  found_all : (f : Findings) → with_jobs f (job ∷ jobs) ≡ with_findings f (found_in (replies_in both))
  found_all f =
      others.found (with_findings f job.found)
      ∙ ap (λ (x : Findings). with_findings x (found_in (replies_in others.answered))) (has.found f)
      ∙ with_both f (replies_in has.answered) (replies_in others.answered)
      ∙ ap (λ (xs : List (ℕ × ReplyData)). with_findings f (found_in xs))
      (sym (map-append (λ (a : ℕ × Exchange). (a.0, a.1.reply)) has.answered others.answered))

  text_all : jobs_text (job ∷ jobs) ≡ replies_text all
  text_all =
      ap₂ ◌++◌ has.text others.text
      ∙ sym (flat_map-append (λ (e : Exchange). reply_line (name_in e.asked) e.reply) has.exchanges others.exchanges)

  fit_all : AllFit all
  fit_all = All-append (λ (e : Exchange). FitsAsked e.asked e.reply) has.exchanges others.exchanges has.fit others.fit

  none_all : (name : List ℕ) → is_in (g ∷ groups) (Some name) ≡ false → entries_of name all ≡ []
  none_all name new =
      let parts = or_parts (has_name (Some name) g) (is_in groups (Some name)) new in
      entries_of-append name has.exchanges others.exchanges
      ∙ ap₂ ◌++◌ (other_entries name g.name has.exchanges parts.0 has.of) (others.none name parts.1)

  -- with no pass it made nothing
  nothing_made : pass ≡ None → (name : List ℕ) → entries_of name has.exchanges ≡ []
  nothing_made is name = at (option_eq name_eq (Some name) g.name) refl
    where
      none : made_in job.pass ≡ []
      none = ap made_in (no_pass job.pass (has.number ∙ ap pass_number is))

      at : (b : Bool) → option_eq name_eq (Some name) g.name ≡ b → entries_of name has.exchanges ≡ []
      at false other = other_entries name g.name has.exchanges other has.of
      at true same =
          let of : AreOf (Some name) (asked_of has.exchanges) =
          let P : Option (List ℕ) → Type 0 = λ n. AreOf n (asked_of has.exchanges) in subst P (sym (same_option (Some name) g.name same)) has.of in
          own_entries name name has.exchanges (name_eq-refl name) of
          ∙ sym (sym none ∙ has.made ∙ ap (λ (p : Option Known). made_in p ++ entries_for has.exchanges) is)

  with_none : pass ≡ None → HasAnswered number (g ∷ groups) (job ∷ jobs)
  with_none is =
      let left : job.pass ≡ None = no_pass job.pass (has.number ∙ ap pass_number is) in
      let names : entered_names jobs ≡ entered_names (job ∷ jobs) =
      ap (λ (ns : List (List ℕ)). ns ++ entered_names jobs) (sym (ap (names_in job.name) left ∙ no_names job.name)) in
      let passes : entered_passes jobs ≡ entered_passes (job ∷ jobs) =
      ap (λ (ps : List Known). ps ++ entered_passes jobs) (sym (ap (passes_in job.name) left ∙ no_passes job.name)) in
      record {
        answered = both;
        exchanges = all;
        these = these_all;
        lines = lines_all;
        text = text_all;
        found = found_all;
        fit = fit_all;
        numbered = subst (AreNumberedFrom number) passes others.numbered;
        each = ap length (sym passes) ∙ others.each ∙ ap length names;
        made = λ name. entries_of-append name has.exchanges others.exchanges
            ∙ ap₂ ◌++◌ (nothing_made is name) (others.made name)
            ∙ ap₂ (λ (ns : List (List ℕ)) (ps : List Known). made_by (callers ns ps) name) names passes;
        none = none_all;
      }

  -- the session of this name made what its lines say
  made_all : (n : List ℕ) (known : Known) → g.name ≡ Some n → known.made ≡ entries_for has.exchanges → (name : List ℕ)
      → entries_of name all ≡ made_by (callers (n ∷ entered_names jobs) (known ∷ entered_passes jobs)) name
  made_all n known named made name = entries_of-append name has.exchanges others.exchanges ∙ at (name_eq name n) refl
    where
      at : (b : Bool) → name_eq name n ≡ b
          → entries_of name has.exchanges ++ entries_of name others.exchanges
          ≡ made_by (callers (n ∷ entered_names jobs) (known ∷ entered_passes jobs)) name
      at true found =
          let of : AreOf (Some n) (asked_of has.exchanges) =
          let P : Option (List ℕ) → Type 0 = λ m. AreOf m (asked_of has.exchanges) in subst P named has.of in
          let new : is_in groups (Some name) ≡ false =
          ap (λ (m : Option (List ℕ)). is_in groups m) (ap Some (same_name name n found) ∙ sym named) ∙ apart in
          ap₂ ◌++◌ (own_entries name n has.exchanges found of) (others.none name new) ∙ append-nil (entries_for has.exchanges) ∙ sym made
          ∙ sym (made_first n (entered_names jobs) known (entered_passes jobs) name found)
      at false found =
          let differs : option_eq name_eq (Some name) g.name ≡ false = ap (option_eq name_eq (Some name)) named ∙ found in
          ap₂ ◌++◌ (other_entries name g.name has.exchanges differs has.of) (others.made name)
          ∙ sym (made_next n (entered_names jobs) known (entered_passes jobs) name found)

-- the group entered with the pass before those of the others
with_pass : (g : GroupData) (job : JobData) (number : ℕ) (has : Has g (Some (newcomer number)) job) (groups : List GroupData) (jobs : List JobData)
    (others : HasAnswered (number + 1) groups jobs) (apart : is_in groups g.name ≡ false) → list_any (λ line. is_call line.asked) g.lines ≡ true
    → HasAnswered number (g ∷ groups) (job ∷ jobs)
with_pass g job number has groups jobs others apart calls =
    let some : list_any is_call (all_asked g.lines) ≡ true = list_any-map is_call (λ (line : Numbered). line.asked) g.lines ∙ calls in
    let called = call_named g.name (all_asked g.lines) (subst (AreOf g.name) has.asked has.of) some in
    let entered = some_pass job.pass number has.number in
    let n = called.0 in
    let known = entered.0 in
    let made : known.made ≡ entries_for has.exchanges = sym (ap made_in entered.1) ∙ has.made in
    let names : n ∷ entered_names jobs ≡ entered_names (job ∷ jobs) =
    ap₂ (λ (m : Option (List ℕ)) (p : Option Known). names_in m p ++ entered_names jobs) (sym (has.name ∙ called.1)) (sym entered.1) in
    let passes : known ∷ entered_passes jobs ≡ entered_passes (job ∷ jobs) =
    ap₂ (λ (m : Option (List ℕ)) (p : Option Known). passes_in m p ++ entered_passes jobs) (sym (has.name ∙ called.1)) (sym entered.1) in
    record {
      answered = both g (Some (newcomer number)) job has (number + 1) groups jobs others apart;
      exchanges = all g (Some (newcomer number)) job has (number + 1) groups jobs others apart;
      these = these_all g (Some (newcomer number)) job has (number + 1) groups jobs others apart;
      lines = lines_all g (Some (newcomer number)) job has (number + 1) groups jobs others apart;
      text = text_all g (Some (newcomer number)) job has (number + 1) groups jobs others apart;
      found = found_all g (Some (newcomer number)) job has (number + 1) groups jobs others apart;
      fit = fit_all g (Some (newcomer number)) job has (number + 1) groups jobs others apart;
      numbered = subst (AreNumberedFrom number) passes (entered.2, others.numbered);
      each = ap length (sym passes) ∙ ap suc others.each ∙ ap length names;
      made = λ name. made_all g (Some (newcomer number)) job has (number + 1) groups jobs others apart n known called.1 made name
          ∙ ap₂ (λ (ns : List (List ℕ)) (ps : List Known). made_by (callers ns ps) name) names passes;
      none = none_all g (Some (newcomer number)) job has (number + 1) groups jobs others apart;
    }

pub HasAnswered-from : (number : ℕ) (groups : List GroupData) (begins jobs : List JobData) → AreApart groups → AreBegun number groups begins
    → AllAnswered begins jobs → HasAnswered number groups jobs
HasAnswered-from number [] [] [] apart begin answered = record {
  answered = [];
  exchanges = [];
  these = refl;
  lines = refl;
  text = refl;
  found = λ f. sym (finds_none f);
  fit = All-nil (λ (e : Exchange). FitsAsked e.asked e.reply);
  numbered = tt;
  each = refl;
  made = λ name. refl;
  none = λ name new. refl;
}
HasAnswered-from number [] [] (job ∷ jobs) apart begin answered = absurd answered
HasAnswered-from number [] (old ∷ begins) jobs apart begin answered = absurd begin
HasAnswered-from number (g ∷ groups) [] jobs apart begin answered = absurd begin
HasAnswered-from number (g ∷ groups) (old ∷ begins) [] apart begin answered = absurd answered
HasAnswered-from number (g ∷ groups) (old ∷ begins) (job ∷ jobs) apart (inl begin) answered =
    with_none g None job (Has-from g None old job begin.0 apart.0 answered.0) number groups jobs
    (HasAnswered-from number groups begins jobs apart.2 begin.1 answered.1) apart.1 refl
HasAnswered-from number (g ∷ groups) (old ∷ begins) (job ∷ jobs) apart (inr begin) answered =
    with_pass g job number (Has-from g (Some (newcomer number)) old job begin.0.begins_so apart.0 answered.0) groups jobs
    (HasAnswered-from (number + 1) groups begins jobs apart.2 begin.1 answered.1) apart.1 begin.0.calls
