-- Each group of a script has a name of its own, and the lines in it have this name.
use Rattle.std.proofs.Common.{◌≡◌, ℕ, List, [], ◌∷◌, ◌++◌, refl, sym, ap, ◌∙◌, subst, Bool, true, false, Option, None, Some, fold}
use Rattle.std.specs.Prelude.{⊤}
use Rattle.std.specs.Option.{option_eq}
use Rattle.std.proofs.lemmas.Bool.{both_ways, or_parts}
use Rattle.std.proofs.lemmas.List.{map-append}
use Rattle.scm_cells.specs.CellLists.{name_eq}
use Rattle.scm_sessions.specs.Asking.{Line, AskedData, name_in}
use Rattle.scm_sessions.specs.Script.{has_reply}
use Rattle.scm_sessions.specs.inner.Numbered.{Numbered, numbered_from, replied, numbered_in, all_asked}
use Rattle.scm_sessions.specs.inner.Groups.{GroupData, has_name, with_numbered, groups_of}
use Rattle.scm_sessions.proofs.Grouping.{is_in, with_numbered-first, with_numbered-next}
use Rattle.scm_sessions.proofs.Making.{same_name, name_eq-refl}

-- these lines have a reply
abbrev pub HaveReply : List Numbered → Type 0
HaveReply [] = ⊤
HaveReply (l ∷ lines) = (has_reply l.asked ≡ true) × HaveReply lines

-- these lines have a reply, each under this name
abbrev pub AreOf : Option (List ℕ) → List AskedData → Type 0
AreOf name [] = ⊤
AreOf name (a ∷ asked) = (has_reply a ≡ true) × (name_in a ≡ name) × AreOf name asked

-- the lines of each of these groups have its name, and no other one has it
abbrev pub AreApart : List GroupData → Type 0
AreApart [] = ⊤
AreApart (g ∷ groups) = AreOf g.name (all_asked g.lines) × (is_in groups g.name ≡ false) × AreApart groups

-- ---- names

pub same_option : (one other : Option (List ℕ)) → option_eq name_eq one other ≡ true → one ≡ other
same_option None None is = refl
same_option None (Some y) is = absurd (cc)
same_option (Some x) None is = absurd (cc)
same_option (Some x) (Some y) is = ap Some (same_name x y is)

option_eq-refl : (name : Option (List ℕ)) → option_eq name_eq name name ≡ true
option_eq-refl None = refl
option_eq-refl (Some n) = name_eq-refl n

other_option : (one other : Option (List ℕ)) → option_eq name_eq one other ≡ false → option_eq name_eq other one ≡ false
other_option one other is = at (option_eq name_eq other one) refl
  where
    at : (b : Bool) → option_eq name_eq other one ≡ b → option_eq name_eq other one ≡ false
    at false differs = differs
    at true same =
        absurd (both_ways (option_eq name_eq one other) is (ap (λ (o : Option (List ℕ)). option_eq name_eq one o) (same_option other one same) ∙ option_eq-refl one))

-- ---- one line more

AreOf-more : (name : Option (List ℕ)) (asked : List AskedData) (a : AskedData) → AreOf name asked → has_reply a ≡ true → name_in a ≡ name
    → AreOf name (asked ++ a ∷ [])
AreOf-more name [] a had replied named = (replied, named, tt)
AreOf-more name (b ∷ asked) a had replied named = (had.0, had.1, AreOf-more name asked a had.2 replied named)

-- another name is as new as it was
still_new : (groups : List GroupData) (l : Numbered) (name : Option (List ℕ)) → is_in groups name ≡ false → option_eq name_eq name (name_in l.asked) ≡ false
    → is_in (with_numbered groups l) name ≡ false
still_new [] l name none other = rw other refl
still_new (g ∷ groups) l name none other =
    let parts = or_parts (has_name name g) (is_in groups name) none in
    at (has_name (name_in l.asked) g) refl parts.0 (still_new groups l name parts.1 other)
  where
    at : (b : Bool) → has_name (name_in l.asked) g ≡ b → has_name name g ≡ false → is_in (with_numbered groups l) name ≡ false
        → is_in (with_numbered (g ∷ groups) l) name ≡ false
    at true same first others = ap (λ (gs : List GroupData). is_in gs name) (with_numbered-first g groups l same) ∙ none
    at false differs first others = ap (λ (gs : List GroupData). is_in gs name) (with_numbered-next g groups l differs) ∙ rw first others

AreApart-more : (groups : List GroupData) (l : Numbered) → AreApart groups → has_reply l.asked ≡ true → AreApart (with_numbered groups l)
AreApart-more [] l apart replied = ((replied, refl, tt), refl, tt)
AreApart-more (g ∷ groups) l apart replied = at (has_name (name_in l.asked) g) refl (AreApart-more groups l apart.2 replied)
  where
    at : (b : Bool) → has_name (name_in l.asked) g ≡ b → AreApart (with_numbered groups l) → AreApart (with_numbered (g ∷ groups) l)
    at true same others =
        let more : AreOf g.name (all_asked g.lines ++ l.asked ∷ []) =
        AreOf-more g.name (all_asked g.lines) l.asked apart.0 replied (same_option (name_in l.asked) g.name same) in
        subst AreApart (sym (with_numbered-first g groups l same))
        (subst (AreOf g.name) (sym (map-append (λ (n : Numbered). n.asked) g.lines (l ∷ []))) more, apart.1, apart.2)
    at false differs others =
        subst AreApart (sym (with_numbered-next g groups l differs))
        (apart.0, still_new groups l g.name apart.1 (other_option (name_in l.asked) g.name differs), others)

-- ---- all lines

AreApart-all : (groups : List GroupData) (lines : List Numbered) → AreApart groups → HaveReply lines → AreApart (fold with_numbered groups lines)
AreApart-all groups [] apart replied = apart
AreApart-all groups (l ∷ lines) apart replied = AreApart-all (with_numbered groups l) lines (AreApart-more groups l apart replied.0) replied.1

HaveReply-filter : (lines : List Numbered) → HaveReply (replied lines)
HaveReply-filter [] = tt
HaveReply-filter (l ∷ lines) = at (has_reply l.asked) refl (HaveReply-filter lines)
  where
    at : (b : Bool) → has_reply l.asked ≡ b → HaveReply (replied lines) → HaveReply (replied (l ∷ lines))
    at true is others =
        let here : replied (l ∷ lines) ≡ l ∷ replied lines = rw is refl in subst HaveReply (sym here) (is, others)
    at false is others =
        let here : replied (l ∷ lines) ≡ replied lines = rw is refl in subst HaveReply (sym here) others

-- the groups of the lines of a script
pub groups_apart : (lines : List Line) → AreApart (groups_of (numbered_in lines))
groups_apart lines = AreApart-all [] (numbered_in lines) tt (HaveReply-filter (numbered_from 1 lines))
