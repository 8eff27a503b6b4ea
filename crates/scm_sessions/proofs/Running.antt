-- A script run goes on by a line, and ends.
use Rattle.std.proofs.Common.{◌≡◌, ℕ, List, [], ◌∷◌, ◌++◌, refl, sym, ap, ◌∙◌, subst, inl, inr, Option, None, Some, append_assoc, append-nil, map, filter}
use Rattle.std.proofs.lemmas.List.{map-append}
use Rattle.std.proofs.lemmas.List.Elements.{filter-append}
use Rattle.std.proofs.lemmas.Grind.{flat_map-append}
use Rattle.std.proofs.KnownBytes.{Consumes-nil, Consumes-trans, Consumes-kept, Appends-nil, Appends-kept, Appends-trans, prepend_known-nil}
use Rattle.std.specs.Io.KnownBytes.{Consumes, Appends, Keeps, IsAtEnd, prepend_known}
use Rattle.scm_book.specs.Machine.{CallData, ReplyData}
use Rattle.scm_sessions.specs.declared.reading.Cut.TheVariants.{Whole, Last}
use Rattle.scm_sessions.specs.Asking.{Line, line_of, whole_lines_of, HasNoFeed, AskedData, asked_by, name_in}
use Rattle.scm_sessions.specs.Script.{reply_line, AppendsPart, Exchange, has_reply, asked_in, asked_of, replies_text, Answers, LeadTo, RunsWholeLines, RunsPart}
use Rattle.scm_sessions.specs.inner.Reading.{TakesLine}
use Rattle.scm_sessions.specs.declared.findings.Findings.{Findings}
use Rattle.scm_sessions.specs.inner.Findings.{findings_of, replies_of, with_answer, FindsWhole}
use Rattle.scm_sessions.specs.inner.Answering.{AnswersLine}
use Rattle.scm_sessions.proofs.Cutting.{AreLines, AreLines-nil, AreLines-more, lines_of-end, lines_of-last, whole_lines_of-part}
use Rattle.scm_sessions.proofs.Finding.{found_more}
use Rattle.scm_sessions.proofs.Sent.{AppendsPart-after, AppendsPart-all}

asked_in-append : (lines more : List Line) → asked_in (lines ++ more) ≡ asked_in lines ++ asked_in more
asked_in-append lines more =
    ap (λ asked. filter has_reply asked) (map-append asked_by lines more) ∙ filter-append has_reply (map asked_by lines) (map asked_by more)

asked_of-append : (exchanges more : List Exchange) → asked_of (exchanges ++ more) ≡ asked_of exchanges ++ asked_of more
asked_of-append exchanges more = map-append (λ e. e.asked) exchanges more

replies_text-append : (exchanges more : List Exchange) → replies_text (exchanges ++ more) ≡ replies_text exchanges ++ replies_text more
replies_text-append exchanges more = flat_map-append (λ e. reply_line (name_in e.asked) e.reply) exchanges more

-- exchanges lead on from where others led
pub LeadTo-append : {S : Type 0} (Calls : S → List ℕ → CallData → ReplyData → S → Type 0) (old : S) (exchanges : List Exchange) (mid : S) (more : List Exchange) (new : S)
    → LeadTo Calls old exchanges mid → LeadTo Calls mid more new → LeadTo Calls old (exchanges ++ more) new
LeadTo-append {S} Calls old [] mid more new lead then = let P : S → Type 0 = λ s. LeadTo Calls s more new in subst P lead then
LeadTo-append {S} Calls old (e ∷ exchanges) mid more new lead then =
    (lead.0, lead.1, LeadTo-append Calls lead.0 exchanges mid more new lead.2 then)

-- bytes were taken from a script and are lines, whose replies were written
pub record HasRun {S : Type 0} (script left written after : Option (List ℕ)) (Calls : S → List ℕ → CallData → ReplyData → S → Type 0) (old new : S) (found : Findings) : Type 0 where
  pub bytes : List ℕ
  pub lines : List Line
  pub exchanges : List Exchange
  pub read : Consumes script left bytes
  pub are : AreLines bytes lines
  pub asked : asked_of exchanges ≡ asked_in lines
  pub wrote : Appends written after (replies_text exchanges)
  pub run : LeadTo Calls old exchanges new
  pub gathered : found ≡ findings_of lines exchanges

-- nothing was read yet
pub HasRun-start : {S : Type 0} (unread : List ℕ) (script written : Option (List ℕ)) (Calls : S → List ℕ → CallData → ReplyData → S → Type 0) (old : S) (found : Findings) → unread ≡ []
    → found ≡ findings_of [] [] → HasRun script (prepend_known unread script) written written Calls old old found
HasRun-start unread script written Calls old found none new = record {
  bytes = [];
  lines = [];
  exchanges = [];
  read = let P : Option (List ℕ) → Type 0 = λ l. Consumes script l [] in
      subst P (sym (ap (λ u. prepend_known u script) none ∙ prepend_known-nil script)) (Consumes-nil script);
  are = AreLines-nil;
  asked = refl;
  wrote = Appends-nil written;
  run = refl;
  gathered = new;
}

module _ {S : Type 0} {Calls : S → List ℕ → CallData → ReplyData → S → Type 0} where
  -- the writer was asked to pass on what it holds
  pub HasRun-kept : {script left written after : Option (List ℕ)} {old new : S} {found : Findings}
      → HasRun script left written after Calls old new found → (later : Option (List ℕ)) → Keeps after later
      → HasRun script left written later Calls old new found
  HasRun-kept {script} {left} {written} {after} {old} {new} {found} had later kept = record {
    bytes = had.bytes;
    lines = had.lines;
    exchanges = had.exchanges;
    read = had.read;
    are = had.are;
    asked = had.asked;
    wrote = Appends-kept written after later (replies_text had.exchanges) had.wrote kept;
    run = had.run;
    gathered = had.gathered;
  }

  -- what holds of the exchanges with those of a line after them

  asked_with_line : {script left written after : Option (List ℕ)} {old mid new : S} {found : Findings} (line : Line) {text : List ℕ}
      (had : HasRun script left written after Calls old mid found) (answers : AnswersLine Calls mid (asked_by line) text new)
      → asked_of (had.exchanges ++ answers.exchanges) ≡ asked_in (had.lines ++ line ∷ [])
  asked_with_line line had answers =
      asked_of-append had.exchanges answers.exchanges ∙ ap (λ asked. asked ++ asked_of answers.exchanges) had.asked
      ∙ ap (λ asked. asked_in had.lines ++ asked) answers.all ∙ sym (asked_in-append had.lines (line ∷ []))

  text_with_line : {script left written after : Option (List ℕ)} {old mid new : S} {found : Findings} (line : Line) {text : List ℕ}
      (had : HasRun script left written after Calls old mid found) (answers : AnswersLine Calls mid (asked_by line) text new)
      → replies_text had.exchanges ++ text ≡ replies_text (had.exchanges ++ answers.exchanges)
  text_with_line line had answers =
      ap (λ t. replies_text had.exchanges ++ t) answers.replied ∙ sym (replies_text-append had.exchanges answers.exchanges)

  wrote_with_line : {script left written after : Option (List ℕ)} (later : Option (List ℕ)) {old mid new : S} {found : Findings} (line : Line) {text : List ℕ}
      (had : HasRun script left written after Calls old mid found) (answers : AnswersLine Calls mid (asked_by line) text new)
      → Appends after later text → Appends written later (replies_text (had.exchanges ++ answers.exchanges))
  wrote_with_line {script} {left} {written} {after} later line had answers wrote =
      subst (Appends written later) (text_with_line line had answers) (Appends-trans written after later _ _ had.wrote wrote)

  lead_with_line : {script left written after : Option (List ℕ)} {old mid new : S} {found : Findings} (line : Line) {text : List ℕ}
      (had : HasRun script left written after Calls old mid found) (answers : AnswersLine Calls mid (asked_by line) text new)
      → LeadTo Calls old (had.exchanges ++ answers.exchanges) new
  lead_with_line {script} {left} {written} {after} {old} {mid} {new} {found} line had answers =
      LeadTo-append Calls old had.exchanges mid answers.exchanges new had.run answers.lead

  -- the findings with those of a line after them
  gathered_with_line : {script left written after : Option (List ℕ)} {old mid new : S} {found : Findings} (line : Line) {text : List ℕ}
      (had : HasRun script left written after Calls old mid found) (answers : AnswersLine Calls mid (asked_by line) text new) (more : Findings)
      → more ≡ with_answer found (replies_of answers.exchanges) → more ≡ findings_of (had.lines ++ line ∷ []) (had.exchanges ++ answers.exchanges)
  gathered_with_line line had answers more gathers =
      gathers ∙ ap (λ f. with_answer f (replies_of answers.exchanges)) had.gathered
      ∙ sym (found_more had.lines had.exchanges line answers.exchanges had.asked answers.all)

  -- one more whole line
  pub HasRun-more : {script left written after : Option (List ℕ)} {old mid : S} {found : Findings} (next later : Option (List ℕ)) (line : Line)
      (text : List ℕ) (new : S) (more : Findings) → HasRun script left written after Calls old mid found → TakesLine Whole left next line
      → (answers : AnswersLine Calls mid (asked_by line) text new) → Appends after later text → more ≡ with_answer found (replies_of answers.exchanges)
      → HasRun script next written later Calls old new more
  HasRun-more {script} {left} {written} {after} {old} {mid} {found} next later line text new more had takes answers wrote gathers =
      let P : Line → Type 0 = λ l. (a : AnswersLine Calls mid (asked_by l) text new) × (more ≡ with_answer found (replies_of a.exchanges)) in
      let both = subst P takes.3 (answers, gathers) in
      let answered = both.0 in
      record {
        bytes = had.bytes ++ (takes.0 ++ 10 ∷ []);
        lines = had.lines ++ line_of takes.0 ∷ [];
        exchanges = had.exchanges ++ answered.exchanges;
        read = Consumes-trans script left next _ _ had.read takes.2;
        are = AreLines-more takes.0 had.are takes.1;
        asked = asked_with_line (line_of takes.0) had answered;
        wrote = wrote_with_line later (line_of takes.0) had answered wrote;
        run = lead_with_line (line_of takes.0) had answered;
        gathered = gathered_with_line (line_of takes.0) had answered more both.1;
      }

pub end_after : (unread : List ℕ) (script left : Option (List ℕ)) (bytes : List ℕ) → Consumes script (prepend_known unread left) bytes
    → IsAtEnd (prepend_known unread left) → Consumes script left bytes × IsAtEnd left
end_after unread None None bytes read end = (tt, tt)
end_after [] None (Some ys) bytes read end = (tt, end)
end_after (b ∷ unread) None (Some ys) bytes read end = absurd (cc)
end_after unread (Some xs) None bytes read end = absurd read
end_after [] (Some xs) (Some ys) bytes read end = (read, end)
end_after (b ∷ unread) (Some xs) (Some ys) bytes read end = absurd (cc)

-- what was read ahead counts as read
read_ahead : (unread : List ℕ) (script left : Option (List ℕ)) (bytes : List ℕ) → Consumes script (prepend_known unread left) bytes
    → Consumes script left (bytes ++ unread)
read_ahead unread None left bytes read = tt
read_ahead unread (Some xs) None bytes read = absurd read
read_ahead unread (Some xs) (Some ys) bytes read = read ∙ sym (append_assoc bytes unread ys)

module _ {S : Type 0} {Calls : S → List ℕ → CallData → ReplyData → S → Type 0} where
  -- the script is at its end
  pub FindsWhole-end : {script left written after : Option (List ℕ)} {old new : S} {found : Findings} (unread : List ℕ) (rest : Option (List ℕ))
      → HasRun script left written after Calls old new found → IsAtEnd (prepend_known unread rest) × Keeps left (prepend_known unread rest)
      → FindsWhole script rest written after (λ exchanges. LeadTo Calls old exchanges new) found
  FindsWhole-end {script} {left} {written} {after} {old} {new} {found} unread rest had takes =
      let ends = end_after unread script rest had.bytes (Consumes-kept script left _ had.bytes had.read takes.1) takes.0 in
      record {
        runs = record {
          bytes = had.bytes;
          exchanges = had.exchanges;
          consumed = ends.0;
          ended = ends.1;
          asked = had.asked ∙ ap asked_in (sym (lines_of-end had.are));
          appended = had.wrote;
          run = had.run;
        };
        found_is = had.gathered ∙ ap (λ lines. findings_of lines had.exchanges) (sym (lines_of-end had.are));
      }

  -- the last line has no line feed
  pub FindsWhole-last : {script left written after : Option (List ℕ)} {old mid : S} {found : Findings} (unread : List ℕ) (rest later : Option (List ℕ)) (line : Line)
      (text : List ℕ) (new : S) (more : Findings) → HasRun script left written after Calls old mid found → TakesLine Last left (prepend_known unread rest) line
      → (answers : AnswersLine Calls mid (asked_by line) text new) → Appends after later text → more ≡ with_answer found (replies_of answers.exchanges)
      → FindsWhole script rest written later (λ exchanges. LeadTo Calls old exchanges new) more
  FindsWhole-last {script} {left} {written} {after} {old} {mid} {found} unread rest later line text new more had takes answers wrote gathers =
      let ends = end_after unread script rest (had.bytes ++ takes.0) (Consumes-trans script left _ _ _ had.read takes.3) takes.4 in
      let P : Line → Type 0 = λ l. (a : AnswersLine Calls mid (asked_by l) text new) × (more ≡ with_answer found (replies_of a.exchanges)) in
      let both = subst P takes.5 (answers, gathers) in
      let answered = both.0 in
      let cut = lines_of-last takes.0 had.are takes.1 takes.2 in
      record {
        runs = record {
          bytes = had.bytes ++ takes.0;
          exchanges = had.exchanges ++ answered.exchanges;
          consumed = ends.0;
          ended = ends.1;
          asked = asked_with_line (line_of takes.0) had answered ∙ ap asked_in (sym cut);
          appended = wrote_with_line later (line_of takes.0) had answered wrote;
          run = lead_with_line (line_of takes.0) had answered;
        };
        found_is = gathered_with_line (line_of takes.0) had answered more both.1
            ∙ ap (λ lines. findings_of lines (had.exchanges ++ answered.exchanges)) (sym cut);
      }

  -- a read failed
  pub RunsWholeLines-part : {script left written after : Option (List ℕ)} {old new : S} {found : Findings} (rest : Option (List ℕ))
      → HasRun script left written after Calls old new found → (part : List ℕ) × HasNoFeed part × Consumes left rest part
      → RunsWholeLines script rest written after (λ exchanges. LeadTo Calls old exchanges new)
  RunsWholeLines-part {script} {left} {written} {after} {old} {new} {found} rest had broken = record {
    bytes = had.bytes ++ broken.0;
    exchanges = had.exchanges;
    consumed = Consumes-trans script left rest _ _ had.read broken.2;
    asked = had.asked ∙ ap asked_in (sym (whole_lines_of-part broken.0 had.are broken.1));
    appended = had.wrote;
    run = had.run;
  }

  -- the writer failed to pass on what it holds
  pub RunsPart-held : {script written after : Option (List ℕ)} {old new : S} {found : Findings} (unread : List ℕ) (rest later : Option (List ℕ))
      → HasRun script (prepend_known unread rest) written after Calls old new found → Keeps after later
      → RunsPart script rest written later (λ exchanges. LeadTo Calls old exchanges new)
  RunsPart-held {script} {written} {after} {old} {new} {found} unread rest later had kept = record {
    bytes = had.bytes ++ unread;
    lines = had.lines;
    others = whole_lines_of unread;
    exchanges = had.exchanges;
    consumed = read_ahead unread script rest had.bytes had.read;
    read = inl (had.are.whole unread);
    asked = had.asked;
    appended = AppendsPart-all written after later (replies_text had.exchanges) had.wrote kept;
    run = had.run;
  }

  part_with_line : {script left written after later : Option (List ℕ)} {old mid new : S} {found : Findings} (line : Line) {text : List ℕ}
      (had : HasRun script left written after Calls old mid found) (answers : AnswersLine Calls mid (asked_by line) text new)
      → AppendsPart after later text → AppendsPart written later (replies_text (had.exchanges ++ answers.exchanges))
  part_with_line {script} {left} {written} {after} {later} {old} {mid} {new} {found} line {text} had answers wrote =
      subst (AppendsPart written later) (text_with_line line had answers) (AppendsPart-after (replies_text had.exchanges) had.wrote wrote)

  -- a write failed at the reply to a whole line
  pub RunsPart-whole : {script left written after : Option (List ℕ)} {old mid : S} {found : Findings} (unread : List ℕ) (rest later : Option (List ℕ)) (line : Line)
      (text : List ℕ) (new : S) → HasRun script left written after Calls old mid found → TakesLine Whole left (prepend_known unread rest) line
      → AnswersLine Calls mid (asked_by line) text new → AppendsPart after later text → RunsPart script rest written later (λ exchanges. LeadTo Calls old exchanges new)
  RunsPart-whole {script} {left} {written} {after} {old} {mid} {found} unread rest later line text new had takes answers wrote =
      let P : Line → Type 0 = λ l. AnswersLine Calls mid (asked_by l) text new in
      let answered = subst P takes.3 answers in
      record {
        bytes = (had.bytes ++ (takes.0 ++ 10 ∷ [])) ++ unread;
        lines = _;
        others = whole_lines_of unread;
        exchanges = had.exchanges ++ answered.exchanges;
        consumed = read_ahead unread script rest _ (Consumes-trans script left _ _ _ had.read takes.2);
        read = inl ((AreLines-more takes.0 had.are takes.1).whole unread);
        asked = asked_with_line (line_of takes.0) had answered;
        appended = part_with_line (line_of takes.0) had answered wrote;
        run = lead_with_line (line_of takes.0) had answered;
      }

  -- a write failed at the reply to a last line with no line feed
  pub RunsPart-last : {script left written after : Option (List ℕ)} {old mid : S} {found : Findings} (unread : List ℕ) (rest later : Option (List ℕ)) (line : Line)
      (text : List ℕ) (new : S) → HasRun script left written after Calls old mid found → TakesLine Last left (prepend_known unread rest) line
      → AnswersLine Calls mid (asked_by line) text new → AppendsPart after later text → RunsPart script rest written later (λ exchanges. LeadTo Calls old exchanges new)
  RunsPart-last {script} {left} {written} {after} {old} {mid} {found} unread rest later line text new had takes answers wrote =
      let ends = end_after unread script rest (had.bytes ++ takes.0) (Consumes-trans script left _ _ _ had.read takes.3) takes.4 in
      let P : Line → Type 0 = λ l. AnswersLine Calls mid (asked_by l) text new in
      let answered = subst P takes.5 answers in
      record {
        bytes = had.bytes ++ takes.0;
        lines = _;
        others = [];
        exchanges = had.exchanges ++ answered.exchanges;
        consumed = ends.0;
        read = inr (ends.1, lines_of-last takes.0 had.are takes.1 takes.2 ∙ sym (append-nil _));
        asked = asked_with_line (line_of takes.0) had answered;
        appended = part_with_line (line_of takes.0) had answered wrote;
        run = lead_with_line (line_of takes.0) had answered;
      }

-- ---- what is said of the exchanges may be said otherwise

pub FindsWhole-map : {script left written after : Option (List ℕ)} {Run Other : List Exchange → Type 0} {found : Findings}
    → ((exchanges : List Exchange) → Run exchanges → Other exchanges) → FindsWhole script left written after Run found → FindsWhole script left written after Other found
FindsWhole-map to had = record {
  runs = record {
    bytes = had.runs.bytes;
    exchanges = had.runs.exchanges;
    consumed = had.runs.consumed;
    ended = had.runs.ended;
    asked = had.runs.asked;
    appended = had.runs.appended;
    run = to had.runs.exchanges had.runs.run;
  };
  found_is = had.found_is;
}

pub RunsWholeLines-map : {script left written after : Option (List ℕ)} {Run Other : List Exchange → Type 0}
    → ((exchanges : List Exchange) → Run exchanges → Other exchanges) → RunsWholeLines script left written after Run → RunsWholeLines script left written after Other
RunsWholeLines-map to had = record {
  bytes = had.bytes;
  exchanges = had.exchanges;
  consumed = had.consumed;
  asked = had.asked;
  appended = had.appended;
  run = to had.exchanges had.run;
}

pub RunsPart-map : {script left written after : Option (List ℕ)} {Run Other : List Exchange → Type 0}
    → ((exchanges : List Exchange) → Run exchanges → Other exchanges) → RunsPart script left written after Run → RunsPart script left written after Other
RunsPart-map to had = record {
  bytes = had.bytes;
  lines = had.lines;
  others = had.others;
  exchanges = had.exchanges;
  consumed = had.consumed;
  read = had.read;
  asked = had.asked;
  appended = had.appended;
  run = to had.exchanges had.run;
}
