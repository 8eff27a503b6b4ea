-- What clap makes of words that ask for the help or the version.
use Rattle.std.proofs.Common.{◌≡◌, ◌∙◌, ◌⊎◌, None, true≢false, List, [], ◌∷◌, is_some, codes, inl, inr, refl, sym, ap}
use Rattle.std.specs.Prelude.{slice_get}
use Rattle.clap.specs.Walk.{Text}
use Rattle.clap.specs.Faults.{fault_of, walk_fault}
use Rattle.clap.specs.Kinds.{Kinds}
use Rattle.clap.specs.declared.error.kind.ErrorKind.TheVariants as kind
use Rattle.clap.proofs.OnLiterals.{clap_on_literals}
use Rattle.scm_monitor.specs.Program.{WordComesFirst, IsHelp, IsVersion, command_line, options_of}

cons≢nil : {X : Type 0} (x : X) (xs : List X) → x ∷ xs ≡ [] → ⊥
cons≢nil {X = X} x xs e = true≢false (ap (λ (ys : List X). is_some (slice_get ys 0)) e)

abbrev journal_then : Text → List Text → List Text
journal_then word rest = codes "--journal" ∷ word ∷ rest

help_is_shown : (rest : List Text) → fault_of command_line (codes "--help" ∷ rest) ≡ kind.DisplayHelp ∷ []
unfolding clap_on_literals walk_fault
help_is_shown rest = refl

h_is_shown : (rest : List Text) → fault_of command_line (codes "-h" ∷ rest) ≡ kind.DisplayHelp ∷ []
unfolding clap_on_literals walk_fault
h_is_shown rest = refl

help_is_shown_after : (rest : List Text) → fault_of command_line (journal_then (codes "--help") rest) ≡ kind.DisplayHelp ∷ []
unfolding clap_on_literals walk_fault
help_is_shown_after rest = refl

h_is_shown_after : (rest : List Text) → fault_of command_line (journal_then (codes "-h") rest) ≡ kind.DisplayHelp ∷ []
unfolding clap_on_literals walk_fault
h_is_shown_after rest = refl

version_is_shown : (rest : List Text) → fault_of command_line (codes "--version" ∷ rest) ≡ kind.DisplayVersion ∷ []
unfolding clap_on_literals walk_fault
version_is_shown rest = refl

v_is_shown : (rest : List Text) → fault_of command_line (codes "-V" ∷ rest) ≡ kind.DisplayVersion ∷ []
unfolding clap_on_literals walk_fault
v_is_shown rest = refl

version_is_shown_after : (rest : List Text) → fault_of command_line (journal_then (codes "--version") rest) ≡ kind.DisplayVersion ∷ []
unfolding clap_on_literals walk_fault
version_is_shown_after rest = refl

v_is_shown_after : (rest : List Text) → fault_of command_line (journal_then (codes "-V") rest) ≡ kind.DisplayVersion ∷ []
unfolding clap_on_literals walk_fault
v_is_shown_after rest = refl

of_words : {a b : List Text} {k : Kinds} → a ≡ b → fault_of command_line b ≡ k → fault_of command_line a ≡ k
of_words same e = ap (fault_of command_line) same ∙ e

of_first : {a rest : List Text} {word other : Text} {k : Kinds} → a ≡ word ∷ rest → word ≡ other
    → fault_of command_line (other ∷ rest) ≡ k → fault_of command_line a ≡ k
of_first {rest = rest} e is f = of_words (e ∙ ap (λ (w : Text). w ∷ rest) is) f

of_second : {a rest : List Text} {word other : Text} {k : Kinds} → a ≡ journal_then word rest → word ≡ other
    → fault_of command_line (journal_then other rest) ≡ k → fault_of command_line a ≡ k
of_second {rest = rest} e is f = of_words (e ∙ ap (λ (w : Text). journal_then w rest) is) f

pub help_shown : (words : List Text) → WordComesFirst IsHelp words → fault_of command_line words ≡ kind.DisplayHelp ∷ []
help_shown words (word, rest, inl is, inl e) = of_first e is (help_is_shown rest)
help_shown words (word, rest, inl is, inr e) = of_second e is (help_is_shown_after rest)
help_shown words (word, rest, inr is, inl e) = of_first e is (h_is_shown rest)
help_shown words (word, rest, inr is, inr e) = of_second e is (h_is_shown_after rest)

pub version_shown : (words : List Text) → WordComesFirst IsVersion words → fault_of command_line words ≡ kind.DisplayVersion ∷ []
version_shown words (word, rest, inl is, inl e) = of_first e is (version_is_shown rest)
version_shown words (word, rest, inl is, inr e) = of_second e is (version_is_shown_after rest)
version_shown words (word, rest, inr is, inl e) = of_first e is (v_is_shown rest)
version_shown words (word, rest, inr is, inr e) = of_second e is (v_is_shown_after rest)

pub help_fails : (words : List Text) → WordComesFirst IsHelp words → fault_of command_line words ≡ [] → ⊥
help_fails words first none = cons≢nil kind.DisplayHelp [] (sym (help_shown words first) ∙ none)

pub version_fails : (words : List Text) → WordComesFirst IsVersion words → fault_of command_line words ≡ [] → ⊥
version_fails words first none = cons≢nil kind.DisplayVersion [] (sym (version_shown words first) ∙ none)

-- ---- such words ask for no run

none_first : (word : Text) (rest : List Text) → IsHelp word ⊎ IsVersion word → options_of (word ∷ rest) ≡ None
none_first word [] (inl (inl is)) = rw is refl
none_first word (next ∷ rest) (inl (inl is)) = rw is refl
none_first word [] (inl (inr is)) = rw is refl
none_first word (next ∷ rest) (inl (inr is)) = rw is refl
none_first word [] (inr (inl is)) = rw is refl
none_first word (next ∷ rest) (inr (inl is)) = rw is refl
none_first word [] (inr (inr is)) = rw is refl
none_first word (next ∷ rest) (inr (inr is)) = rw is refl

none_second : (word : Text) (rest : List Text) → IsHelp word ⊎ IsVersion word → options_of (journal_then word rest) ≡ None
none_second word [] (inl (inl is)) = rw is refl
none_second word (next ∷ rest) (inl (inl is)) = rw is refl
none_second word [] (inl (inr is)) = rw is refl
none_second word (next ∷ rest) (inl (inr is)) = rw is refl
none_second word [] (inr (inl is)) = rw is refl
none_second word (next ∷ rest) (inr (inl is)) = rw is refl
none_second word [] (inr (inr is)) = rw is refl
none_second word (next ∷ rest) (inr (inr is)) = rw is refl

pub help_asks_no_run : (words : List Text) → WordComesFirst IsHelp words → options_of words ≡ None
help_asks_no_run words (word, rest, is, inl e) = rw e (none_first word rest (inl is))
help_asks_no_run words (word, rest, is, inr e) = rw e (none_second word rest (inl is))

pub version_asks_no_run : (words : List Text) → WordComesFirst IsVersion words → options_of words ≡ None
version_asks_no_run words (word, rest, is, inl e) = rw e (none_first word rest (inr is))
version_asks_no_run words (word, rest, is, inr e) = rw e (none_second word rest (inr is))
