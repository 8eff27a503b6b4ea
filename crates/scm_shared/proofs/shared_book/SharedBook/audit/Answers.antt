use Rattle.std.proofs.Common.{ℕ, ◌≤◌, length, arith}
use Rattle.std.proofs.lemmas.List.Elements.{All-weaker}
use Rattle.scm_shared.specs.Passes.{Known, HasReached}
use Rattle.scm_shared.specs.inner.Rule.{FitsHistory}
use Rattle.scm_shared.proofs.shared_book.SharedBook.audit.Goals as goal

pub returns-clause-reached : goal.returns-clause-reached
returns-clause-reached g c =
    All-weaker (λ (pass : Known). FitsHistory c.audit.result.book.journal pass) (λ (pass : Known). (n : ℕ) → HasReached pass n → n ≤ length c.audit.result.book.journal)
    (λ pass fit n reached. omega (arith, reached, fit.front)) c.args.passes.items c.audit.ensures.fits
