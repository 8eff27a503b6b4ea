-- A line reader's line grows byte by byte, up to the limit, while a piece of the script comes in.
use Rattle.std.proofs.Common.{◌≡◌, ◌≢◌, ℕ, zero, suc, ◌==◌, ◌<◌, ◌≤◌, List, [], ◌∷◌, ◌++◌, ◌+◌, ◌-◌, ◌||◌, length, take, drop, get_or, refl, sym, ap, ◌∙◌, arith, ⊎_elim, true≢false, eq-eqb, eqb-true, ap₂, append_assoc, Option, None, Some, IfSome, Bool, true, false, nat_lt, min, if◌then◌else◌, length-append, length-take, length-drop}
use Rattle.std.proofs.lemmas.Bool.{lt-ltb, le-ltb, ltb-false, cases_lt}
use Rattle.std.proofs.lemmas.List.{take_all, take-take, take-append-le, take-append-drop, drop-take, drop-drop, drop_more, length-take-le}
use Rattle.std.proofs.lemmas.List.Sums.{fails_before_first}
use Rattle.std.proofs.lemmas.List.Quantifiers.{position-Some}
use Rattle.std.specs.List.{position, position_or_len}
use Rattle.std.proofs.Math.Seq.{take-append-add}
use Rattle.std.proofs.lemmas.List.Elements.{All-append, All-cons, All-nil}
use Rattle.std.proofs.KnownBytes.{Consumes-trans, Consumes-kept}
use Rattle.std.specs.Io.BufRead.{strip_last}
use Rattle.std.specs.Io.KnownBytes.{Consumes, Keeps, IsAtEnd, prepend_known}
use Rattle.scm_sequences.specs.declared.limits.TheConstants.{LONGEST_LINE}
use Rattle.scm_sessions.specs.declared.reading.Cut.TheVariants.{Whole, Last}
use Rattle.scm_sessions.specs.Asking.{Line, too_long, text, line_of, HasNoFeed}
use Rattle.scm_sessions.specs.inner.Reading.{TakesLine}
use Rattle.scm_sessions.proofs.Splitting.{position-none}

-- since old a piece came in that has no line feed, and this is what is kept of it
pub record HasGathered (old new : Option (List ℕ)) (line : List ℕ) (is_long : Bool) : Type 0 where
  pub piece : List ℕ
  pub no_feed : HasNoFeed piece
  pub came : Consumes old new piece
  pub kept : line ≡ take LONGEST_LINE piece
  pub long : is_long ≡ nat_lt LONGEST_LINE (length piece)

-- the same, where what is kept stands in another place
pub HasGathered-same : {a b : Option (List ℕ)} {line other : List ℕ} {is_long is_other_long : Bool} → HasGathered a b line is_long
    → other ≡ line → is_other_long ≡ is_long → HasGathered a b other is_other_long
HasGathered-same {a} {b} {line} {other} {is_long} {is_other_long} had same_line same_long = record {
  piece = had.piece;
  no_feed = had.no_feed;
  came = had.came;
  kept = same_line ∙ had.kept;
  long = same_long ∙ had.long;
}

-- a line has as many bytes as its piece, up to the limit
kept_length : (line piece : List ℕ) → line ≡ take LONGEST_LINE piece → length line ≡ min LONGEST_LINE (length piece)
kept_length line piece kept = ap length kept ∙ length-take LONGEST_LINE piece

-- what is kept of a piece that goes on is what is kept of it so far, and as much more as there is room for
pub taken_more : (line bytes : List ℕ) (count : ℕ) → length line ≤ LONGEST_LINE
    → line ++ take (min count (LONGEST_LINE - length line)) bytes ≡ take LONGEST_LINE (line ++ take count bytes)
taken_more line bytes count within =
    ⊎_elim
    (λ over.
    let some : min count (LONGEST_LINE - length line) ≡ LONGEST_LINE - length line = omega arith in
    let room : LONGEST_LINE ≡ length line + (LONGEST_LINE - length line) = omega arith in
    ap (λ n. line ++ take n bytes) some ∙ ap (λ l. line ++ l) (sym (take-take (LONGEST_LINE - length line) count bytes (omega arith)))
    ∙ sym (ap (λ n. take n (line ++ take count bytes)) room ∙ take-append-add line (take count bytes) (LONGEST_LINE - length line)))
    (λ fits.
    let all : min count (LONGEST_LINE - length line) ≡ count = omega arith in
    ap (λ n. line ++ take n bytes) all
    ∙ sym (take_all LONGEST_LINE (line ++ take count bytes) (omega (arith, length-append line (take count bytes), length-take count bytes))))
    (cases_lt (LONGEST_LINE - length line) count)

taken_twice : (piece bytes : List ℕ) → take LONGEST_LINE (take LONGEST_LINE piece ++ bytes) ≡ take LONGEST_LINE (piece ++ bytes)
taken_twice piece bytes =
    ⊎_elim
    (λ over.
    take-append-le LONGEST_LINE (take LONGEST_LINE piece) bytes (omega (arith, length-take LONGEST_LINE piece))
    ∙ take-take LONGEST_LINE LONGEST_LINE piece (omega arith) ∙ sym (take-append-le LONGEST_LINE piece bytes (omega arith)))
    (λ fits. ap (λ l. take LONGEST_LINE (l ++ bytes)) (take_all LONGEST_LINE piece (omega arith)))
    (cases_lt LONGEST_LINE (length piece))

over_when : (piece line bytes : ℕ) → line ≡ min LONGEST_LINE piece
    → nat_lt LONGEST_LINE piece || nat_lt LONGEST_LINE (line + bytes) ≡ nat_lt LONGEST_LINE (piece + bytes)
over_when piece line bytes is =
    ⊎_elim
    (λ over. rw (lt-ltb LONGEST_LINE piece over, lt-ltb LONGEST_LINE (piece + bytes) (omega arith)) refl)
    (λ fits. rw (le-ltb LONGEST_LINE piece fits) (ap (λ n. nat_lt LONGEST_LINE (n + bytes)) (omega arith)))
    (cases_lt LONGEST_LINE piece)

-- a piece goes on by some bytes that are no line feeds
pub HasGathered-more : {a b c : Option (List ℕ)} {line : List ℕ} {is_long : Bool} (bytes : List ℕ) → HasGathered a b line is_long
    → Consumes b c bytes → HasNoFeed bytes
    → HasGathered a c (take LONGEST_LINE (line ++ bytes)) (is_long || nat_lt LONGEST_LINE (length line + length bytes))
HasGathered-more {a} {b} {c} {line} {is_long} bytes had came none = record {
  piece = had.piece ++ bytes;
  no_feed = let P : ℕ → Type 0 = λ b. b ≢ 10 in All-append P had.piece bytes had.no_feed none;
  came = Consumes-trans a b c had.piece bytes had.came came;
  kept = ap (λ l. take LONGEST_LINE (l ++ bytes)) had.kept ∙ taken_twice had.piece bytes;
  long = ap (λ b. b || nat_lt LONGEST_LINE (length line + length bytes)) had.long
      ∙ over_when (length had.piece) (length line) (length bytes) (kept_length line had.piece had.kept)
      ∙ ap (nat_lt LONGEST_LINE) (sym (length-append had.piece bytes));
}

held_short : (line piece : List ℕ) (is_long : Bool) → line ≡ take LONGEST_LINE piece → is_long ≡ nat_lt LONGEST_LINE (length piece)
    → is_long ≡ false → (if is_long then too_long else text (strip_last 13 line)) ≡ line_of piece
held_short line piece is_long kept long short =
    let within : nat_lt LONGEST_LINE (length piece) ≡ false = sym long ∙ short in
    let whole : line ≡ piece = kept ∙ take_all LONGEST_LINE piece (ltb-false LONGEST_LINE (length piece) within) in
    let P : Bool → List ℕ → Line = λ b l. if b then too_long else text (strip_last 13 l) in
    ap (λ b. P b line) long ∙ ap (P (nat_lt LONGEST_LINE (length piece))) whole

held_cases : (line piece : List ℕ) (is_long : Bool) → line ≡ take LONGEST_LINE piece → is_long ≡ nat_lt LONGEST_LINE (length piece)
    → (if is_long then too_long else text (strip_last 13 line)) ≡ line_of piece
held_cases line piece false kept long = held_short line piece false kept long refl
held_cases line piece true kept long =
    let P : Bool → Line = λ b. if b then too_long else text (strip_last 13 piece) in ap P long

-- what is held is the line that the piece is
pub held_is : {a b : Option (List ℕ)} (line : List ℕ) (is_long : Bool) → (had : HasGathered a b line is_long)
    → (if is_long then too_long else text (strip_last 13 line)) ≡ line_of had.piece
held_is line is_long had = held_cases line had.piece is_long had.kept had.long

-- the line feed came
pub TakesLine-whole : {a b : Option (List ℕ)} {line : List ℕ} {is_long : Bool} (c : Option (List ℕ)) → HasGathered a b line is_long
    → Consumes b c (10 ∷ []) → TakesLine Whole a c (if is_long then too_long else text (strip_last 13 line))
TakesLine-whole {a} {b} {line} {is_long} c had feed =
    (had.piece, had.no_feed, Consumes-trans a b c had.piece (10 ∷ []) had.came feed, held_is line is_long had)

-- the end came after some bytes
pub TakesLine-last : {a b : Option (List ℕ)} {line : List ℕ} {is_long : Bool} (c : Option (List ℕ)) → HasGathered a b line is_long
    → Keeps b c → IsAtEnd c → 0 < length line → TakesLine Last a c (if is_long then too_long else text (strip_last 13 line))
TakesLine-last {a} {b} {line} {is_long} c had kept end some =
    let more : 0 < length had.piece = omega (arith, kept_length line had.piece had.kept) in
    (had.piece, had.no_feed, more, Consumes-kept a b c had.piece had.came kept, end, held_is line is_long had)

-- ---- what is unread, taken in pieces

pub unread_is : (start end : ℕ) (bytes chunk : List ℕ) → start ≤ end → bytes ≡ chunk
    → take (end - start) (drop start bytes) ≡ drop start (take end chunk)
unread_is start end bytes chunk ordered same =
    let all : start + (end - start) ≡ end = omega arith in
    ap (λ l. take (end - start) (drop start l)) same ∙ sym (drop-take start (end - start) chunk) ∙ ap (λ n. drop start (take n chunk)) all

pub unread_length : (start end : ℕ) (chunk : List ℕ) → end ≤ length chunk → end - start ≡ length (drop start (take end chunk))
unread_length start end chunk within = omega (arith, length-drop start (take end chunk), length-take end chunk)

pub taken_within : (line bytes : List ℕ) → line ≡ take LONGEST_LINE bytes → length line ≤ LONGEST_LINE
taken_within line bytes is = omega (arith, ap length is, length-take LONGEST_LINE bytes)

Keeps-Consumes : (a b c : Option (List ℕ)) (bytes : List ℕ) → Keeps a b → Consumes b c bytes → Consumes a c bytes
Keeps-Consumes None b c bytes p q = tt
Keeps-Consumes (Some x) None c bytes p q = absurd p
Keeps-Consumes (Some x) (Some y) None bytes p q = absurd q
Keeps-Consumes (Some x) (Some y) (Some z) bytes p q = sym p ∙ q

prepend_known-taken : (known : Option (List ℕ)) (unread front rest : List ℕ) → unread ≡ front ++ rest
    → Consumes (prepend_known unread known) (prepend_known rest known) front
prepend_known-taken None unread front rest is = tt
prepend_known-taken (Some x) unread front rest is = ap (λ l. l ++ x) is ∙ append_assoc front rest x

no_feed_at : (b : ℕ) → (b == 10) ≡ false → b ≢ 10
no_feed_at b other is = true≢false (sym (eq-eqb b 10 is) ∙ other)

no_feed_before : (bytes : List ℕ) (n : ℕ) → n ≤ length bytes → ((k : ℕ) → k < n → (get_or bytes k 0 == 10) ≡ false) → HasNoFeed (take n bytes)
no_feed_before bytes zero within other = let P : ℕ → Type 0 = λ b. b ≢ 10 in All-nil P
no_feed_before [] (suc n) within other = let P : ℕ → Type 0 = λ b. b ≢ 10 in All-nil P
no_feed_before (b ∷ bytes) (suc n) within other =
    let P : ℕ → Type 0 = λ b. b ≢ 10 in
    All-cons P b (take n bytes) (no_feed_at b (other 0 (omega arith)))
    (no_feed_before bytes n (omega arith) (λ k below. other (suc k) (omega arith)))

-- the first line feed stands among the unread bytes, where one does
pub feed_within : (feed : Option ℕ) (unread : List ℕ) → feed ≡ position (λ b. b == 10) unread → IfSome feed (λ place. place < length unread)
feed_within None unread is = tt
feed_within (Some place) unread is = (position-Some (λ b. b == 10) unread place 0 (sym is)).0

-- the line feed is among the unread bytes
pub TakesLine-feed : {a b : Option (List ℕ)} {line : List ℕ} {is_long : Bool} (known : Option (List ℕ)) (unread later now : List ℕ)
    (is_now_long : Bool) (place : ℕ) → HasGathered a b line is_long → Keeps b (prepend_known unread known)
    → position (λ b. b == 10) unread ≡ Some place → now ≡ take LONGEST_LINE (line ++ take place unread)
    → is_now_long ≡ (is_long || nat_lt LONGEST_LINE (length line + place)) → later ≡ drop 1 (drop place unread)
    → TakesLine Whole a (prepend_known later known) (if is_now_long then too_long else text (strip_last 13 now))
TakesLine-feed {a} {b} {line} {is_long} known unread later now is_now_long place had kept found is_now long is_later =
    let at = position-Some (λ b. b == 10) unread place 0 found in
    let front = take place unread in
    let front_length : length front ≡ place = length-take-le place unread (omega (arith, at.0)) in
    let came : Consumes b (prepend_known (drop place unread) known) front =
    Keeps-Consumes b _ _ front kept (prepend_known-taken known unread front (drop place unread) (sym (take-append-drop place unread))) in
    let gathered = HasGathered-more front had came (no_feed_before unread place (omega (arith, at.0)) at.2) in
    let same_long : is_now_long ≡ (is_long || nat_lt LONGEST_LINE (length line + length front)) =
    long ∙ ap (λ n. is_long || nat_lt LONGEST_LINE (length line + n)) (sym front_length) in
    let ten : get_or unread place 0 ≡ 10 = eqb-true (get_or unread place 0) 10 at.1 in
    let rest : drop place unread ≡ 10 ∷ later =
    drop_more unread place 0 at.0 ∙ ap₂ ◌∷◌ ten (sym (is_later ∙ drop-drop 1 place unread)) in
    TakesLine-whole _ (HasGathered-same gathered is_now same_long) (prepend_known-taken known (drop place unread) (10 ∷ []) later rest)

-- no line feed is among the unread bytes, which are all taken
pub HasGathered-all : {a b : Option (List ℕ)} {line : List ℕ} {is_long : Bool} (known : Option (List ℕ)) (unread later now : List ℕ)
    (is_now_long : Bool) (count : ℕ) → HasGathered a b line is_long → Keeps b (prepend_known unread known)
    → position (λ b. b == 10) unread ≡ None → count ≡ length unread → now ≡ take LONGEST_LINE (line ++ take count unread)
    → is_now_long ≡ (is_long || nat_lt LONGEST_LINE (length line + count)) → later ≡ drop count unread
    → HasGathered a (prepend_known later known) now is_now_long
HasGathered-all {a} {b} {line} {is_long} known unread later now is_now_long count had kept none is_count is_now long is_later =
    let all : length unread ≤ position_or_len (λ b. b == 10) unread = position-none (λ b. b == 10) unread none in
    let front = take count unread in
    let front_length : length front ≡ count = length-take-le count unread (omega arith) in
    let came : Consumes b (prepend_known later known) front =
    Keeps-Consumes b _ _ front kept (prepend_known-taken known unread front later
    (sym (take-append-drop count unread) ∙ ap (λ l. front ++ l) (sym is_later))) in
    let others : (k : ℕ) → k < count → (get_or unread k 0 == 10) ≡ false =
    λ k below. fails_before_first (λ b. b == 10) unread k 0 (omega arith) in
    let gathered = HasGathered-more front had came (no_feed_before unread count (omega arith) others) in
    let same_long : is_now_long ≡ (is_long || nat_lt LONGEST_LINE (length line + length front)) =
    long ∙ ap (λ n. is_long || nat_lt LONGEST_LINE (length line + n)) (sym front_length) in
    HasGathered-same gathered is_now same_long
