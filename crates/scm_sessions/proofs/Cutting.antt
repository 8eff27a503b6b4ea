-- The lines of bytes that come in piece by piece.
use Rattle.std.proofs.Common.{◌≡◌, ◌≢◌, ℕ, ◌<◌, List, [], ◌∷◌, ◌++◌, length, map, refl, sym, ap, ◌∙◌, arith, ◌==◌, false, append_assoc, append-nil}
use Rattle.std.proofs.lemmas.Bool.{ne_eqb}
use Rattle.std.proofs.lemmas.List.Elements.{All-head, All-tail}
use Rattle.scm_sessions.specs.Asking.{Line, onto_first, onto_whole, pieces_of, whole_pieces_of, line_of, lines_of, whole_lines_of, HasNoFeed}

no_feed-head : (b : ℕ) (bytes : List ℕ) → HasNoFeed (b ∷ bytes) → b ≢ 10
no_feed-head b bytes none = let P : ℕ → Type 0 = λ x. x ≢ 10 in All-head P b bytes none

no_feed-tail : (b : ℕ) (bytes : List ℕ) → HasNoFeed (b ∷ bytes) → HasNoFeed bytes
no_feed-tail b bytes none = let P : ℕ → Type 0 = λ x. x ≢ 10 in All-tail P b bytes none

pieces_of-other : (b : ℕ) (bytes : List ℕ) → b ≢ 10 → pieces_of (b ∷ bytes) ≡ onto_first b (pieces_of bytes)
pieces_of-other b bytes other = let e : (b == 10) ≡ false = ne_eqb b 10 other in rw e

whole_pieces_of-other : (b : ℕ) (bytes : List ℕ) → b ≢ 10 → whole_pieces_of (b ∷ bytes) ≡ onto_whole b (whole_pieces_of bytes)
whole_pieces_of-other b bytes other = let e : (b == 10) ≡ false = ne_eqb b 10 other in rw e

pieces_of-feed : (piece more : List ℕ) → HasNoFeed piece → pieces_of (piece ++ 10 ∷ more) ≡ piece ∷ pieces_of more
pieces_of-feed [] more none = refl
pieces_of-feed (b ∷ piece) more none =
    pieces_of-other b (piece ++ 10 ∷ more) (no_feed-head b piece none)
    ∙ ap (onto_first b) (pieces_of-feed piece more (no_feed-tail b piece none))

whole_pieces_of-feed : (piece more : List ℕ) → HasNoFeed piece → whole_pieces_of (piece ++ 10 ∷ more) ≡ piece ∷ whole_pieces_of more
whole_pieces_of-feed [] more none = refl
whole_pieces_of-feed (b ∷ piece) more none =
    whole_pieces_of-other b (piece ++ 10 ∷ more) (no_feed-head b piece none)
    ∙ ap (onto_whole b) (whole_pieces_of-feed piece more (no_feed-tail b piece none))

pieces_of-open : (b : ℕ) (piece : List ℕ) → HasNoFeed piece → onto_first b (pieces_of piece) ≡ (b ∷ piece) ∷ []
pieces_of-open b [] none = refl
pieces_of-open b (c ∷ piece) none =
    ap (onto_first b) (pieces_of-other c piece (no_feed-head c piece none) ∙ pieces_of-open c piece (no_feed-tail c piece none))

pieces_of-last : (piece : List ℕ) → HasNoFeed piece → 0 < length piece → pieces_of piece ≡ piece ∷ []
pieces_of-last [] none some = absurd (omega arith)
pieces_of-last (b ∷ piece) none some =
    pieces_of-other b piece (no_feed-head b piece none) ∙ pieces_of-open b piece (no_feed-tail b piece none)

whole_pieces_of-part : (piece : List ℕ) → HasNoFeed piece → whole_pieces_of piece ≡ []
whole_pieces_of-part [] none = refl
whole_pieces_of-part (b ∷ piece) none =
    whole_pieces_of-other b piece (no_feed-head b piece none) ∙ ap (onto_whole b) (whole_pieces_of-part piece (no_feed-tail b piece none))

-- these bytes are these lines, whatever follows
pub record AreLines (bytes : List ℕ) (lines : List Line) : Type 0 where
  pub all : (more : List ℕ) → lines_of (bytes ++ more) ≡ lines ++ lines_of more
  pub whole : (more : List ℕ) → whole_lines_of (bytes ++ more) ≡ lines ++ whole_lines_of more

pub AreLines-nil : AreLines [] []
AreLines-nil = record { all = λ more. refl; whole = λ more. refl }

fed : (bytes piece more : List ℕ) → (bytes ++ (piece ++ 10 ∷ [])) ++ more ≡ bytes ++ (piece ++ 10 ∷ more)
fed bytes piece more = append_assoc bytes (piece ++ 10 ∷ []) more ∙ ap (λ l. bytes ++ l) (append_assoc piece (10 ∷ []) more)

pushed : (lines more : List Line) (line : Line) → lines ++ line ∷ more ≡ (lines ++ line ∷ []) ++ more
pushed lines more line = sym (append_assoc lines (line ∷ []) more)

-- one more piece with its line feed
pub AreLines-more : {bytes : List ℕ} {lines : List Line} (piece : List ℕ) → AreLines bytes lines → HasNoFeed piece
    → AreLines (bytes ++ (piece ++ 10 ∷ [])) (lines ++ line_of piece ∷ [])
AreLines-more {bytes} {lines} piece are none = record {
  all = λ more. ap lines_of (fed bytes piece more) ∙ are.all (piece ++ 10 ∷ more)
      ∙ ap (λ ps. lines ++ map line_of ps) (pieces_of-feed piece more none) ∙ pushed lines (lines_of more) (line_of piece);
  whole = λ more. ap whole_lines_of (fed bytes piece more) ∙ are.whole (piece ++ 10 ∷ more)
      ∙ ap (λ ps. lines ++ map line_of ps) (whole_pieces_of-feed piece more none) ∙ pushed lines (whole_lines_of more) (line_of piece);
}

-- nothing follows
pub lines_of-end : {bytes : List ℕ} {lines : List Line} → AreLines bytes lines → lines_of bytes ≡ lines
lines_of-end {bytes} {lines} are = ap lines_of (sym (append-nil bytes)) ∙ are.all [] ∙ append-nil lines

-- a last piece follows
pub lines_of-last : {bytes : List ℕ} {lines : List Line} (piece : List ℕ) → AreLines bytes lines → HasNoFeed piece → 0 < length piece
    → lines_of (bytes ++ piece) ≡ lines ++ line_of piece ∷ []
lines_of-last {bytes} {lines} piece are none some = are.all piece ∙ ap (λ ps. lines ++ map line_of ps) (pieces_of-last piece none some)

-- a piece follows that breaks off
pub whole_lines_of-part : {bytes : List ℕ} {lines : List Line} (part : List ℕ) → AreLines bytes lines → HasNoFeed part
    → whole_lines_of (bytes ++ part) ≡ lines
whole_lines_of-part {bytes} {lines} part are none =
    are.whole part ∙ ap (λ ps. lines ++ map line_of ps) (whole_pieces_of-part part none) ∙ append-nil lines
