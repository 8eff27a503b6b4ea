-- The first word of a line, and the words behind it.
use Rattle.std.proofs.Common.{◌≡◌, ℕ, zero, suc, ◌<◌, ◌≤◌, ◌+◌, ◌-◌, List, [], ◌∷◌, length, take, drop, drop_of_length-le, refl, sym, ap, ◌∙◌, arith, Option, None, Some, Bool, true, false, not, nat_lt, filter, get_or, get_or-drop, ap₂, true≢false, lt-ltb, ltb-false, if◌then◌else◌}
use Rattle.std.proofs.lemmas.List.{take_all, length-take, length-drop}
use Rattle.std.proofs.lemmas.List.Splits.{slice_split-cons_yes, slice_split-cons_no}
use Rattle.std.proofs.lemmas.List.Sums.{fails_before_first}
use Rattle.std.proofs.lemmas.List.Quantifiers.{position-Some}
use Rattle.std.specs.List.{onto_first, position, position_or_len}
use Rattle.std.specs.Option.{unwrap_or}
use Rattle.scm_sessions.specs.Asking.{is_blank, split_at_blanks, words_of}

abbrev pub is_word : List ℕ → Bool
is_word field = nat_lt 0 (length field)

not_false : (b : Bool) → not b ≡ false → b ≡ true
not_false true e = refl
not_false false e = absurd (cc)

not_true : (b : Bool) → not b ≡ true → b ≡ false
not_true true e = absurd (cc)
not_true false e = refl

-- a blank in front is no part of a word
words-blank : (b : ℕ) (bytes : List ℕ) → is_blank b ≡ true → words_of (b ∷ bytes) ≡ words_of bytes
words-blank b bytes blank = ap (filter is_word) (slice_split-cons_yes is_blank b bytes blank)

-- nor are several
words-blanks : (bytes : List ℕ) (i : ℕ) → i ≤ length bytes → ((k : ℕ) → k < i → is_blank (get_or bytes k 0) ≡ true)
    → words_of bytes ≡ words_of (drop i bytes)
words-blanks bytes zero within blank = refl
words-blanks [] (suc i) within blank = refl
words-blanks (b ∷ bytes) (suc i) within blank =
    words-blank b bytes (blank 0 (omega arith)) ∙ words-blanks bytes i (omega arith) (λ k below. blank (suc k) (omega arith))

-- what stands before the first blank is a field, and the words of the others are those of what stands from there on
pub record SplitsField (bytes : List ℕ) (e : ℕ) : Type 0 where
  pub others : List (List ℕ)
  pub fields : split_at_blanks bytes ≡ take e bytes ∷ others
  pub words : filter is_word others ≡ words_of (drop e bytes)

splits_field : (bytes : List ℕ) (e : ℕ) → e ≤ length bytes → ((k : ℕ) → k < e → is_blank (get_or bytes k 0) ≡ false)
    → (e < length bytes → is_blank (get_or bytes e 0) ≡ true) → SplitsField bytes e
splits_field [] zero within word ends = record { others = []; fields = refl; words = refl }
splits_field [] (suc e) within word ends = absurd (omega arith)
splits_field (b ∷ bytes) zero within word ends =
    let blank : is_blank b ≡ true = ends (omega arith) in
    record { others = split_at_blanks bytes; fields = slice_split-cons_yes is_blank b bytes blank; words = sym (words-blank b bytes blank) }
splits_field (b ∷ bytes) (suc e) within word ends =
    let rest = splits_field bytes e (omega arith) (λ k below. word (suc k) (omega arith)) (λ below. ends (omega arith)) in
    record {
      others = rest.others;
      fields = slice_split-cons_no is_blank b bytes (word 0 (omega arith)) ∙ ap (onto_first b) rest.fields;
      words = rest.words;
    }

nonempty_word : (word : List ℕ) (others : List (List ℕ)) → 0 < length word → filter is_word (word ∷ others) ≡ word ∷ filter is_word others
nonempty_word word others some = let kept : nat_lt 0 (length word) ≡ true = lt-ltb 0 (length word) some in rw kept

found_none : (b : Bool) (n : ℕ) → (if b then Some n else None) ≡ None → b ≡ false
found_none true n e = absurd (cc)
found_none false n e = refl

-- nothing is found: each element fails
pub position-none : (test : ℕ → Bool) (bytes : List ℕ) → position test bytes ≡ None → length bytes ≤ position_or_len test bytes
position-none test bytes none = ltb-false (position_or_len test bytes) (length bytes) (found_none _ _ none)

-- a list of blanks has no word
pub words-none : (bytes : List ℕ) → position (λ b. not (is_blank b)) bytes ≡ None → words_of bytes ≡ []
words-none bytes none =
    let test : ℕ → Bool = λ b. not (is_blank b) in
    let all : length bytes ≤ position_or_len test bytes = position-none test bytes none in
    let gone : drop (length bytes) bytes ≡ [] = drop_of_length-le bytes (omega arith) in
    words-blanks bytes (length bytes) (omega arith) (λ k below. not_false _ (fails_before_first test bytes k 0 (omega arith)))
    ∙ ap words_of gone

-- a word ends at its first blank, or at the end of the line
field_ends : (text : List ℕ) (found : Option ℕ) → position is_blank text ≡ found → SplitsField text (unwrap_or found (length text))
field_ends text None is =
    let all : length text ≤ position_or_len is_blank text = position-none is_blank text is in
    splits_field text (length text) (omega arith) (λ k below. fails_before_first is_blank text k 0 (omega arith)) (λ below. absurd (omega arith))
field_ends text (Some e) is =
    let at = position-Some is_blank text e 0 is in splits_field text e (omega (arith, at.0)) at.2 (λ below. at.1)

-- a word that doesn't begin with a blank has a byte
some_bytes : (text : List ℕ) (found : Option ℕ) → position is_blank text ≡ found → 0 < length text → is_blank (get_or text 0 0) ≡ false
    → 0 < length (take (unwrap_or found (length text)) text)
some_bytes text None is some word = omega (arith, length-take (length text) text)
some_bytes text (Some zero) is some word = let at = position-Some is_blank text 0 0 is in absurd (true≢false (sym at.1 ∙ word))
some_bytes text (Some (suc e)) is some word =
    let at = position-Some is_blank text (suc e) 0 is in omega (arith, length-take (suc e) text, at.0)

-- the first word is cut off
pub words-split : (bytes front back : List ℕ) (i e : ℕ) (found : Option ℕ) → position (λ b. not (is_blank b)) bytes ≡ Some i
    → found ≡ position is_blank (take (length bytes - i) (drop i bytes))
    → e ≡ unwrap_or found (length (take (length bytes - i) (drop i bytes)))
    → front ≡ take e (take (length bytes - i) (drop i bytes)) → back ≡ drop e (take (length bytes - i) (drop i bytes))
    → words_of bytes ≡ front ∷ words_of back
words-split bytes front back i e found is_found is_end is_e is_front is_back =
    let at = position-Some (λ b. not (is_blank b)) bytes i 0 is_found in
    let text : List ℕ = drop i bytes in
    let same : take (length bytes - i) (drop i bytes) ≡ text =
    take_all (length bytes - i) (drop i bytes) (omega (arith, length-drop i bytes)) in
    let ends : position is_blank text ≡ found = sym (is_end ∙ ap (position is_blank) same) in
    let length_is : e ≡ unwrap_or found (length text) = is_e ∙ ap (λ t. unwrap_or found (length t)) same in
    let splits : SplitsField text (unwrap_or found (length text)) = field_ends text found ends in
    let here : i + 0 ≡ i = omega arith in
    let first : is_blank (get_or text 0 0) ≡ false =
    ap is_blank (get_or-drop i bytes 0 0) ∙ ap (λ k. is_blank (get_or bytes k 0)) here ∙ not_true _ at.1 in
    let some : 0 < length (take (unwrap_or found (length text)) text) =
    some_bytes text found ends (omega (arith, length-drop i bytes, at.0)) first in
    let blanks : words_of bytes ≡ words_of text =
    words-blanks bytes i (omega (arith, at.0)) (λ k below. not_false _ (at.2 k below)) in
    let front_is : take (unwrap_or found (length text)) text ≡ front = sym (is_front ∙ ap₂ take length_is same) in
    let back_is : drop (unwrap_or found (length text)) text ≡ back = sym (is_back ∙ ap₂ drop length_is same) in
    blanks ∙ ap (filter is_word) splits.fields
    ∙ nonempty_word _ splits.others some ∙ ap₂ ◌∷◌ front_is (splits.words ∙ ap words_of back_is)
