-- What a line asks goes into the group of its name.
use Rattle.std.proofs.Common.{◌≡◌, ℕ, zero, suc, ◌+◌, List, [], ◌∷◌, ◌++◌, refl, sym, ap, ap₂, ◌∙◌, subst, arith, Bool, true, false, not, ◌||◌, Option, Result, Ok, Err, OnOk, None, length, set, get_or, fold}
use Rattle.std.specs.List.{list_any, position_or_len}
use Rattle.std.specs.Option.{option_eq}
use Rattle.std.specs.Io.KnownBytes.{Consumes, Keeps, IsAtEnd, prepend_known}
use Rattle.std.proofs.KnownBytes.{Consumes-nil, Consumes-trans, Consumes-kept, prepend_known-nil}
use Rattle.std.proofs.lemmas.List.Elements.{filter-append}
use Rattle.scm_cells.specs.CellLists.{name_eq}
use Rattle.scm_results.specs.Totals.{capped}
use Rattle.scm_sessions.specs.declared.reading.Cut.TheVariants.{Whole, Last}
use Rattle.scm_sessions.specs.Asking.{Line, line_of, HasNoFeed, asked_by, name_in}
use Rattle.scm_sessions.specs.declared.findings.Findings.{Findings}
use Rattle.scm_sessions.specs.Script.{has_reply}
use Rattle.scm_sessions.specs.inner.Numbered.{Numbered, numbered, numbered_from, numbered_in, replied}
use Rattle.scm_sessions.specs.inner.Findings.{unanswered, with_line}
use Rattle.scm_sessions.specs.inner.Reading.{TakesLine}
use Rattle.scm_sessions.specs.inner.Groups.{GroupData, group, has_name, with_numbered, groups_of, with_group, with_next, group_names, GroupsWhole, GroupsWholeLines}
use Rattle.scm_sessions.proofs.Cutting.{AreLines, AreLines-nil, AreLines-more, lines_of-end, lines_of-last, whole_lines_of-part}
use Rattle.scm_sessions.proofs.Finding.{findings, capped_more}
use Rattle.scm_sessions.proofs.Running.{end_after}

-- ---- places

-- the place of the group of this name, or the next free one
abbrev pub place_in : List GroupData → Option (List ℕ) → ℕ
place_in groups name = position_or_len (has_name name) groups

abbrev pub is_in : List GroupData → Option (List ℕ) → Bool
is_in groups name = list_any (has_name name) groups

first_place : (g : GroupData) (groups : List GroupData) (name : Option (List ℕ)) → has_name name g ≡ true → place_in (g ∷ groups) name ≡ 0
first_place g groups name found = rw found refl

next_place : (g : GroupData) (groups : List GroupData) (name : Option (List ℕ)) → has_name name g ≡ false
    → place_in (g ∷ groups) name ≡ suc (place_in groups name)
next_place g groups name other = rw other (omega arith)

place_of_name : (groups : List GroupData) (name : Option (List ℕ)) → position_or_len (option_eq name_eq name) (group_names groups) ≡ place_in groups name
place_of_name [] name = refl
place_of_name (g ∷ groups) name = at (has_name name g) refl (place_of_name groups name)
  where
    at : (b : Bool) → has_name name g ≡ b → position_or_len (option_eq name_eq name) (group_names groups) ≡ place_in groups name
        → position_or_len (option_eq name_eq name) (group_names (g ∷ groups)) ≡ place_in (g ∷ groups) name
    at true is rest = rw is refl
    at false is rest = rw is (ap (λ (n : ℕ). 1 + n) rest)

is_in-names : (groups : List GroupData) (name : Option (List ℕ)) → list_any (option_eq name_eq name) (group_names groups) ≡ is_in groups name
is_in-names [] name = refl
is_in-names (g ∷ groups) name = ap (λ b. has_name name g || b) (is_in-names groups name)

-- ---- a name, and the group of it

module _ (keys : List (Option (List ℕ))) (groups now : List GroupData) (found name : Option (List ℕ)) (same : found ≡ name) (named : keys ≡ group_names groups)
    (is_now : groups ≡ now) where
  pub place_is : (place : ℕ) → place ≡ position_or_len (option_eq name_eq found) keys → place ≡ place_in now name
  place_is place is =
      is ∙ ap₂ (λ (n : Option (List ℕ)) (ks : List (Option (List ℕ))). position_or_len (option_eq name_eq n) ks) same named ∙ place_of_name groups name
      ∙ ap (λ (gs : List GroupData). place_in gs name) is_now

  was_in : (is_new b : Bool) → is_new ≡ not (list_any (option_eq name_eq found) keys) → is_new ≡ b → b ≡ not (is_in now name)
  was_in is_new b added is =
      sym is ∙ added
      ∙ ap not (ap₂ (λ (n : Option (List ℕ)) (ks : List (Option (List ℕ))). list_any (option_eq name_eq n) ks) same named ∙ is_in-names groups name
      ∙ ap (λ (gs : List GroupData). is_in gs name) is_now)

  with_old : (there : Bool) → is_in now name ≡ there → false ≡ not there → with_group now name ≡ now
  with_old true is there = rw is refl
  with_old false is there = absurd (cc)

  with_new : (there : Bool) → is_in now name ≡ there → true ≡ not there → with_group now name ≡ now ++ group name [] ∷ []
  with_new true is there = absurd (cc)
  with_new false is there = rw is refl

  -- it has one already
  pub old_group : (is_new : Bool) (reserved : List GroupData) → is_new ≡ not (list_any (option_eq name_eq found) keys) → is_new ≡ false → reserved ≡ groups
      → reserved ≡ with_group now name
  old_group is_new reserved added is stays = stays ∙ is_now ∙ sym (with_old (is_in now name) refl (was_in is_new false added is))

  -- it has one now
  pub new_group : (is_new : Bool) (reserved later : List GroupData) (new : GroupData) (read : Option (List ℕ)) → is_new ≡ not (list_any (option_eq name_eq found) keys)
      → is_new ≡ true → reserved ≡ groups → later ≡ reserved ++ new ∷ [] → new ≡ group read [] → read ≡ name → later ≡ with_group now name
  new_group is_new reserved later new read added is stays pushed made reads =
      pushed ∙ ap₂ (λ (gs : List GroupData) (g : GroupData). gs ++ g ∷ []) (stays ∙ is_now) (made ∙ ap (λ (n : Option (List ℕ)). group n []) reads)
      ∙ sym (with_new (is_in now name) refl (was_in is_new true added is))

-- ---- one line more

-- the same group with one line more
abbrev more : GroupData → Numbered → GroupData
more g l = group g.name (g.lines ++ l ∷ [])

with_group-first : (g : GroupData) (groups : List GroupData) (name : Option (List ℕ)) → has_name name g ≡ true → with_group (g ∷ groups) name ≡ g ∷ groups
with_group-first g groups name found = rw found refl

with_group-next : (g : GroupData) (groups : List GroupData) (name : Option (List ℕ)) → has_name name g ≡ false
    → with_group (g ∷ groups) name ≡ g ∷ with_group groups name
with_group-next g groups name other = at (is_in groups name) refl
  where
    at : (b : Bool) → is_in groups name ≡ b → with_group (g ∷ groups) name ≡ g ∷ with_group groups name
    at true is = rw other (rw is refl)
    at false is = rw other (rw is refl)

pub with_numbered-first : (g : GroupData) (groups : List GroupData) (l : Numbered) → has_name (name_in l.asked) g ≡ true
    → with_numbered (g ∷ groups) l ≡ more g l ∷ groups
with_numbered-first g groups l found = rw found refl

pub with_numbered-next : (g : GroupData) (groups : List GroupData) (l : Numbered) → has_name (name_in l.asked) g ≡ false
    → with_numbered (g ∷ groups) l ≡ g ∷ with_numbered groups l
with_numbered-next g groups l other = rw other refl

-- where the group at the place of its name had one line more, the groups had it
abbrev Puts : List GroupData → Numbered → GroupData → GroupData → Type 0
Puts groups l old new = old ≡ get_or (with_group groups (name_in l.asked)) (place_in groups (name_in l.asked)) old
    → set (with_group groups (name_in l.asked)) (place_in groups (name_in l.asked)) new ≡ with_numbered groups l

pub line_pushed : (groups : List GroupData) (l : Numbered) (old new : GroupData) → new ≡ more old l → Puts groups l old new
line_pushed [] l old new is was = ap (λ (g : GroupData). g ∷ []) (is ∙ ap (λ (g : GroupData). more g l) was)
line_pushed (g ∷ groups) l old new is was = at (has_name (name_in l.asked) g) refl (line_pushed groups l old new is)
  where
    at : (b : Bool) → has_name (name_in l.asked) g ≡ b → Puts groups l old new
        → set (with_group (g ∷ groups) (name_in l.asked)) (place_in (g ∷ groups) (name_in l.asked)) new ≡ with_numbered (g ∷ groups) l
    at true first others =
        let names = with_group-first g groups (name_in l.asked) first in
        let place = first_place g groups (name_in l.asked) first in
        let here : old ≡ g = was ∙ ap₂ (λ (gs : List GroupData) (k : ℕ). get_or gs k old) names place in
        ap₂ (λ (gs : List GroupData) (k : ℕ). set gs k new) names place ∙ ap (λ (x : GroupData). x ∷ groups) (is ∙ ap (λ (x : GroupData). more x l) here)
        ∙ sym (with_numbered-first g groups l first)
    at false other others =
        let names = with_group-next g groups (name_in l.asked) other in
        let place = next_place g groups (name_in l.asked) other in
        let there : old ≡ get_or (with_group groups (name_in l.asked)) (place_in groups (name_in l.asked)) old =
        was ∙ ap₂ (λ (gs : List GroupData) (k : ℕ). get_or gs k old) names place in
        ap₂ (λ (gs : List GroupData) (k : ℕ). set gs k new) names place ∙ ap (λ (gs : List GroupData). g ∷ gs) (others there)
        ∙ sym (with_numbered-next g groups l other)

-- the names stay
pub names_set : (groups : List GroupData) (k : ℕ) (old new : GroupData) → old ≡ get_or groups k old → new.name ≡ old.name → group_names (set groups k new) ≡ group_names groups
names_set [] k old new was same = refl
names_set (g ∷ groups) zero old new was same = ap (λ (n : Option (List ℕ)). n ∷ group_names groups) (same ∙ ap (λ (x : GroupData). x.name) was)
names_set (g ∷ groups) (suc k) old new was same = ap (λ (ns : List (Option (List ℕ))). g.name ∷ ns) (names_set groups k old new was same)

-- the same, where the groups stand elsewhere
pub pushed_at : (now items mid : List GroupData) (place : ℕ) (l : Numbered) (old new : GroupData) → items ≡ mid → mid ≡ with_group now (name_in l.asked)
    → place ≡ place_in now (name_in l.asked) → old ≡ get_or items place old → new ≡ more old l → set items place new ≡ with_numbered now l
pushed_at now items mid place l old new view named is_place was is =
    let there : old ≡ get_or (with_group now (name_in l.asked)) (place_in now (name_in l.asked)) old =
    was ∙ ap₂ (λ (gs : List GroupData) (k : ℕ). get_or gs k old) (view ∙ named) is_place in
    ap₂ (λ (gs : List GroupData) (k : ℕ). set gs k new) (view ∙ named) is_place ∙ line_pushed now l old new is there

pub on_ok : {X E A B : Type 0} (r : Result X E) → (A → B) → OnOk r A → OnOk r B
on_ok (Ok x) f a = f a
on_ok (Err e) f a = tt

-- ---- line by line

fold_on : {A B : Type 0} (f : B → A → B) (start : B) (xs ys : List A) → fold f start (xs ++ ys) ≡ fold f (fold f start xs) ys
fold_on f start [] ys = refl
fold_on f start (x ∷ xs) ys = fold_on f (f start x) xs ys

numbered_from-more : (n : ℕ) (lines : List Line) (line : Line)
    → numbered_from n (lines ++ line ∷ []) ≡ numbered_from n lines ++ numbered (capped (n + length lines)) (asked_by line) ∷ []
numbered_from-more n [] line =
    let is : n ≡ n + 0 = omega arith in ap (λ (k : ℕ). numbered (capped k) (asked_by line) ∷ []) is
numbered_from-more n (l ∷ lines) line =
    let is : n + 1 + length lines ≡ n + length (l ∷ lines) = omega arith in
    ap (λ (ls : List Numbered). numbered (capped n) (asked_by l) ∷ ls)
    (numbered_from-more (n + 1) lines line
    ∙ ap (λ (k : ℕ). numbered_from (n + 1) lines ++ numbered (capped k) (asked_by line) ∷ []) is)

-- the next line has the number after those that were counted
numbered_in-more : (lines : List Line) (line : Line)
    → numbered_in (lines ++ line ∷ []) ≡ numbered_in lines ++ replied (numbered (capped (capped (length lines) + 1)) (asked_by line) ∷ [])
numbered_in-more lines line =
    let number : capped (1 + length lines) ≡ capped (capped (length lines) + 1) = omega arith in
    ap replied (numbered_from-more 1 lines line ∙ ap (λ (k : ℕ). numbered_from 1 lines ++ numbered k (asked_by line) ∷ []) number)
    ∙ filter-append (λ (l : Numbered). has_reply l.asked) (numbered_from 1 lines) (numbered (capped (capped (length lines) + 1)) (asked_by line) ∷ [])

-- the groups of these lines and one more
groups_more : (lines : List Line) (line : Line)
    → with_next (groups_of (numbered_in lines)) (capped (capped (length lines) + 1)) line ≡ groups_of (numbered_in (lines ++ line ∷ []))
groups_more lines line =
    sym (ap groups_of (numbered_in-more lines line)
    ∙ fold_on with_numbered [] (numbered_in lines) (replied (numbered (capped (capped (length lines) + 1)) (asked_by line) ∷ [])))

-- bytes were taken from a script and are lines, which were counted and stand in their groups
pub record HasGrouped (script left : Option (List ℕ)) (groups : List GroupData) (found : Findings) : Type 0 where
  pub bytes : List ℕ
  pub lines : List Line
  pub read : Consumes script left bytes
  pub are : AreLines bytes lines
  pub grouped : groups ≡ groups_of (numbered_in lines)
  pub counted : found ≡ unanswered (length lines)

pub HasGrouped-start : (unread : List ℕ) (script : Option (List ℕ)) (groups : List GroupData) (found : Findings) → unread ≡ [] → groups ≡ []
    → found ≡ unanswered 0 → HasGrouped script (prepend_known unread script) groups found
HasGrouped-start unread script groups found none new uncounted = record {
  bytes = [];
  lines = [];
  read = let P : Option (List ℕ) → Type 0 = λ l. Consumes script l [] in
      subst P (sym (ap (λ u. prepend_known u script) none ∙ prepend_known-nil script)) (Consumes-nil script);
  are = AreLines-nil;
  grouped = new;
  counted = uncounted;
}

more_counted : (found after : Findings) (lines : List Line) (line : Line) → found ≡ unanswered (length lines) → after ≡ with_line found
    → after ≡ unanswered (length (lines ++ line ∷ []))
more_counted found after lines line had counts =
    counts ∙ ap with_line had ∙ ap (λ (n : ℕ). findings n None false false) (sym (capped_more lines line))

more_grouped : (before : List GroupData) (lines : List Line) (line : Line) (piece : List ℕ) (after : List GroupData) (found counted : Findings)
    → before ≡ groups_of (numbered_in lines) → line ≡ line_of piece → found ≡ unanswered (length lines) → counted ≡ with_line found
    → after ≡ with_next before counted.lines line → after ≡ groups_of (numbered_in (lines ++ line_of piece ∷ []))
more_grouped before lines line piece after found counted had is uncounted counts put =
    let number : counted.lines ≡ capped (capped (length lines) + 1) = ap (λ (f : Findings). f.lines) (counts ∙ ap with_line uncounted) in
    put ∙ ap₂ (λ (gs : List GroupData) (k : ℕ). with_next gs k line) had number
    ∙ ap (with_next (groups_of (numbered_in lines)) (capped (capped (length lines) + 1))) is ∙ groups_more lines (line_of piece)

module _ {script left : Option (List ℕ)} {before : List GroupData} {found : Findings} (had : HasGrouped script left before found) where
  -- one more whole line
  pub HasGrouped-more : (next : Option (List ℕ)) (line : Line) (after : List GroupData) (counted : Findings) → TakesLine Whole left next line
      → counted ≡ with_line found → after ≡ with_next before counted.lines line → HasGrouped script next after counted
  HasGrouped-more next line after counted takes counts put = record {
    bytes = had.bytes ++ (takes.0 ++ 10 ∷ []);
    lines = had.lines ++ line_of takes.0 ∷ [];
    read = Consumes-trans script left next _ _ had.read takes.2;
    are = AreLines-more takes.0 had.are takes.1;
    grouped = more_grouped before had.lines line takes.0 after found counted had.grouped takes.3 had.counted counts put;
    counted = more_counted found counted had.lines (line_of takes.0) had.counted counts;
  }

  -- the script is at its end
  pub GroupsWhole-end : (unread : List ℕ) (rest : Option (List ℕ)) → IsAtEnd (prepend_known unread rest) × Keeps left (prepend_known unread rest)
      → GroupsWhole script rest before found
  GroupsWhole-end unread rest takes =
      let ends = end_after unread script rest had.bytes (Consumes-kept script left _ had.bytes had.read takes.1) takes.0 in
      record {
        bytes = had.bytes;
        consumed = ends.0;
        ended = ends.1;
        grouped = had.grouped ∙ ap (λ (lines : List Line). groups_of (numbered_in lines)) (sym (lines_of-end had.are));
        counted = had.counted ∙ ap (λ (lines : List Line). unanswered (length lines)) (sym (lines_of-end had.are));
      }

  -- the last line has no line feed
  pub GroupsWhole-last : (unread : List ℕ) (rest : Option (List ℕ)) (line : Line) (after : List GroupData) (counted : Findings)
      → TakesLine Last left (prepend_known unread rest) line → counted ≡ with_line found → after ≡ with_next before counted.lines line
      → GroupsWhole script rest after counted
  GroupsWhole-last unread rest line after counted takes counts put =
      let ends = end_after unread script rest (had.bytes ++ takes.0) (Consumes-trans script left _ _ _ had.read takes.3) takes.4 in
      let cut = lines_of-last takes.0 had.are takes.1 takes.2 in
      record {
        bytes = had.bytes ++ takes.0;
        consumed = ends.0;
        ended = ends.1;
        grouped = more_grouped before had.lines line takes.0 after found counted had.grouped takes.5 had.counted counts put
            ∙ ap (λ (lines : List Line). groups_of (numbered_in lines)) (sym cut);
        counted = more_counted found counted had.lines (line_of takes.0) had.counted counts
            ∙ ap (λ (lines : List Line). unanswered (length lines)) (sym cut);
      }

  -- a read failed
  pub GroupsWholeLines-part : (rest : Option (List ℕ)) → (part : List ℕ) × HasNoFeed part × Consumes left rest part → GroupsWholeLines script rest before
  GroupsWholeLines-part rest broken = record {
    bytes = had.bytes ++ broken.0;
    consumed = Consumes-trans script left rest _ _ had.read broken.2;
    grouped = had.grouped ∙ ap (λ (lines : List Line). groups_of (numbered_in lines)) (sym (whole_lines_of-part broken.0 had.are broken.1));
  }
