-- What is sent in parts is sent whole.
use Rattle.std.proofs.Common.{◌≡◌, ℕ, ◌+◌, ◌-◌, List, [], ◌++◌, length, take, drop, refl, sym, ap, ◌∙◌, subst, Option, Bool, true, false, append_assoc, append-nil, take-append-drop, ◌<◌, ◌∷◌, get_or, map, flat_map}
use Rattle.std.proofs.lemmas.List.{take_rest, take_more, flat_map_more}
use Rattle.std.proofs.lemmas.List.Folds.{flat_map-map}
use Rattle.std.proofs.Math.Seq.{take-add}
use Rattle.std.proofs.KnownBytes.{Appends-trans, Appends-kept, Keeps-trans}
use Rattle.std.specs.Io.KnownBytes.{Appends, Keeps}
use Rattle.scm_sessions.specs.Script.{AppendsPart, Sends}

-- the first i bytes went out, and then n of what is left
pub Appends-more : (a b c : Option (List ℕ)) (xs : List ℕ) (i n : ℕ) → Appends a b (take i xs)
    → Appends b c (take n (take (length xs - i) (drop i xs))) → Appends a c (take (i + n) xs)
Appends-more a b c xs i n before more =
    let P : List ℕ → Type 0 = λ l. Appends b c (take n l) in
    subst (Appends a c) (sym (take-add i n xs)) (Appends-trans a b c _ _ before (subst P (take_rest xs i) more))

-- a beginning went out, and then nothing
pub AppendsPart-kept : {a b c : Option (List ℕ)} {s : List ℕ} (t : List ℕ) → AppendsPart a b s → Keeps b c → AppendsPart a c (s ++ t)
AppendsPart-kept {a} {b} {c} {s} t part kept = record {
  front = part.front;
  rest = part.rest ++ t;
  is_text = ap (λ l. l ++ t) part.is_text ∙ append_assoc part.front part.rest t;
  appended = Appends-kept a b c part.front part.appended kept;
}

-- one text went out, and a beginning of the next
pub AppendsPart-after : {a b c : Option (List ℕ)} {t : List ℕ} (s : List ℕ) → Appends a b s → AppendsPart b c t → AppendsPart a c (s ++ t)
AppendsPart-after {a} {b} {c} {t} s whole part = record {
  front = s ++ part.front;
  rest = part.rest;
  is_text = ap (λ l. s ++ l) part.is_text ∙ sym (append_assoc s part.front part.rest);
  appended = Appends-trans a b c s part.front whole part.appended;
}

-- the first i bytes went out, and then nothing
pub AppendsPart-taken : (a b c : Option (List ℕ)) (xs : List ℕ) (i : ℕ) → Appends a b (take i xs) → Keeps b c → AppendsPart a c xs
AppendsPart-taken a b c xs i before kept = record {
  front = take i xs;
  rest = drop i xs;
  is_text = sym (take-append-drop i xs);
  appended = Appends-kept a b c (take i xs) before kept;
}

-- a text went out whole, and then nothing
pub AppendsPart-all : (a b c : Option (List ℕ)) (s : List ℕ) → Appends a b s → Keeps b c → AppendsPart a c s
AppendsPart-all a b c s whole kept = record {
  front = s;
  rest = [];
  is_text = sym (append-nil s);
  appended = Appends-kept a b c s whole kept;
}

-- one more piece, where no call before it had failed
sends-good : (a b c : Option (List ℕ)) (p r : Bool) (s t : List ℕ) → Sends a p b false s → Sends b false c r t → Sends a p c r (s ++ t)
sends-good a b c p r s t first second = record {
  whole = λ good. Appends-trans a b c s t (first.whole refl) (second.whole good);
  part = λ had has. AppendsPart-after s (first.whole refl) (second.part refl has);
  kept = λ had. let no : false ≡ true = first.stays had in cc;
  stays = λ had. let no : false ≡ true = first.stays had in cc;
}

-- one more piece, where a call before it had failed
sends-failed : (a b c : Option (List ℕ)) (p r : Bool) (s t : List ℕ) → Sends a p b true s → Sends b true c r t → Sends a p c r (s ++ t)
sends-failed a b c p r s t first second = record {
  whole = λ good. let no : r ≡ true = second.stays refl in cc;
  part = λ had has. AppendsPart-kept t (first.part had refl) (second.kept refl);
  kept = λ had. Keeps-trans a b c (first.kept had) (second.kept refl);
  stays = λ had. second.stays refl;
}

sends-both : (a b c : Option (List ℕ)) (p q r : Bool) (s t : List ℕ) → Sends a p b q s → Sends b q c r t → Sends a p c r (s ++ t)
sends-both a b c p false r s t first second = sends-good a b c p r s t first second
sends-both a b c p true r s t first second = sends-failed a b c p r s t first second

-- one text, and then another
pub Sends-trans : {a b c : Option (List ℕ)} {p q r : Bool} {s t : List ℕ} → Sends a p b q s → Sends b q c r t → Sends a p c r (s ++ t)
Sends-trans {a} {b} {c} {p} {q} {r} {s} {t} first second = sends-both a b c p q r s t first second

-- the same text, written in another way
pub Sends-same : {a b : Option (List ℕ)} {p q : Bool} {s t : List ℕ} → Sends a p b q s → s ≡ t → Sends a p b q t
Sends-same {a} {b} {p} {q} {s} {t} sent same = subst (Sends a p b q) same sent

-- one more item of a list
pub flat_map-take_more : {X : Type 0} (f : X → List ℕ) (xs : List X) (i : ℕ) (x d : X) → i < length xs → x ≡ get_or xs i d
    → flat_map f (take i xs) ++ f x ≡ flat_map f (take (i + 1) xs)
flat_map-take_more f xs i x d within is =
    let more : take (i + 1) xs ≡ take i xs ++ x ∷ [] = take_more xs i d within ∙ ap (λ y. take i xs ++ y ∷ []) (sym is) in
    flat_map_more f [] (take i xs) x ∙ ap (flat_map f) (sym more)

-- one more item of a list, of which something is read
pub flat_map-map_take_more : {X Y : Type 0} (f : Y → List ℕ) (v : X → Y) (xs : List X) (i : ℕ) (x d : X) → i < length xs → x ≡ get_or xs i d
    → flat_map f (map v (take i xs)) ++ f (v x) ≡ flat_map f (map v (take (i + 1) xs))
flat_map-map_take_more f v xs i x d within is =
    ap (λ (text : List ℕ). text ++ f (v x)) (flat_map-map f v (take i xs)) ∙ flat_map-take_more (λ y. f (v y)) xs i x d within is
    ∙ sym (flat_map-map f v (take (i + 1) xs))
