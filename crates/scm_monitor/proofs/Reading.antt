-- The words of the command line, read from the first to the last.
use Rattle.std.proofs.Common.{◌≡◌, ◌∙◌, ◌≤◌, ◌-◌, ℕ, arith, ap, sym, Bool, true, false, List, [], ◌∷◌, length, take, drop, if◌then◌else◌, Option, Some, Bor, slice_index_or, codes}
use Rattle.std.specs.Option.{option_and_then}
use Rattle.std.specs.Str.{bytes_eq}
use Rattle.std.proofs.lemmas.List.{take_all}
use Rattle.clap.specs.Walk.{Text, texts}
use Rattle.scm_monitor.specs.declared.switches.Switches.{Switches}
use Rattle.scm_monitor.specs.Program.{with_words, with_flag, with_workers, workers_of_word}

abbrev Words : Type 0
Words = List (Bor Text)

-- what an index beyond the words would give
abbrev no_word : Bor Text
no_word = record { ref_ptr = (0, 0); now = [] }

-- a number of workers is asked for
pub two_on : (asked more : Switches) (n : ℕ) (words : Words) → 2 ≤ length words
    → bytes_eq (slice_index_or words 0 no_word).now (codes "--workers") ≡ true → workers_of_word (slice_index_or words 1 no_word).now ≡ Some n → with_workers asked n ≡ Some more
    → with_words more (texts (take (length words - 2) (drop 2 words))) ≡ with_words asked (texts words)
two_on asked more n [] two is says with = absurd (omega (arith, two))
two_on asked more n (x ∷ []) two is says with = absurd (omega (arith, two))
two_on asked more n (x ∷ y ∷ words) two is says with =
    let left : length (x ∷ y ∷ words) - 2 ≡ length words = omega arith in
    let all : take (length (x ∷ y ∷ words) - 2) words ≡ words = take_all (length (x ∷ y ∷ words) - 2) words (omega (arith, left)) in
    let other = option_and_then (λ (a : Switches). with_words a (y.now ∷ texts words)) (with_flag asked x.now) in
    let go = λ (o : Option Switches). option_and_then (λ (a : Switches). with_words a (texts words)) o in
    let reads : with_words asked (x.now ∷ y.now ∷ texts words) ≡ with_words more (texts words) =
    ap (λ (b : Bool). if b then option_and_then (λ k. go (with_workers asked k)) (workers_of_word y.now) else other) is
    ∙ ap (λ (o : Option ℕ). option_and_then (λ k. go (with_workers asked k)) o) says ∙ ap go with in
    ap (λ (l : Words). with_words more (texts l)) all ∙ sym reads

-- something else is
pub one_on : (asked more : Switches) (words : Words) → 2 ≤ length words
    → bytes_eq (slice_index_or words 0 no_word).now (codes "--workers") ≡ false → with_flag asked (slice_index_or words 0 no_word).now ≡ Some more
    → with_words more (texts (take (length words - 1) (drop 1 words))) ≡ with_words asked (texts words)
one_on asked more [] two is with = absurd (omega (arith, two))
one_on asked more (x ∷ []) two is with = absurd (omega (arith, two))
one_on asked more (x ∷ y ∷ words) two is with =
    let left : length (x ∷ y ∷ words) - 1 ≡ length (y ∷ words) = omega arith in
    let all : take (length (x ∷ y ∷ words) - 1) (y ∷ words) ≡ y ∷ words = take_all (length (x ∷ y ∷ words) - 1) (y ∷ words) (omega (arith, left)) in
    let go = λ (o : Option Switches). option_and_then (λ (a : Switches). with_words a (y.now ∷ texts words)) o in
    let some = option_and_then (λ k. option_and_then (λ (a : Switches). with_words a (texts words)) (with_workers asked k)) (workers_of_word y.now) in
    let reads : with_words asked (x.now ∷ y.now ∷ texts words) ≡ with_words more (y.now ∷ texts words) =
    ap (λ (b : Bool). if b then some else go (with_flag asked x.now)) is ∙ ap go with in
    ap (λ (l : Words). with_words more (texts l)) all ∙ sym reads
