use Rattle.std.proofs.Common.{◌≡◌, ◌++◌, length, option_map}
use Rattle.scm_sessions.specs.Asking.{words_of, declarations_of_words}
use Rattle.scm_sessions.proofs.arguments.read_declarations.Given as goal

-- the words are the declarations so far, and those that the words of the rest are
abbrev pub invariant-loop-word : goal.invariant-loop-word
invariant-loop-word l =
    declarations_of_words (words_of l.line) ≡ option_map (λ decls. l.decls.items ++ decls) (declarations_of_words (words_of l.rest))

abbrev pub decreases-loop-word : goal.decreases-loop-word
decreases-loop-word l = length l.rest
