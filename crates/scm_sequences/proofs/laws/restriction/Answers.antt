use Rattle.scm_sequences.specs.laws.CutLaws.{count_in-cut, IsLegal-cut, IsLegal-from_cut}
use Rattle.scm_sequences.proofs.laws.restriction.Goals as goal

pub returns : goal.returns
returns c = record {
  cut = λ t lengths front. (
    (λ legal. (IsLegal-from_cut t lengths front legal, (λ p _. count_in-cut t lengths front legal p))),
    (λ within. IsLegal-cut t lengths front within.0 within.1),
  );
}
