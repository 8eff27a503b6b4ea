use Rattle.scm_sequences.specs.laws.FixedLaws.{IsLegal-given, IsLegal-given_some, IsConsistent-given_some, IsLegal-given_in_width, IsConsistent-given_in_width}
use Rattle.scm_sequences.proofs.laws.unset_cells.Goals as goal

pub returns : goal.returns
returns c = record {
  choice = λ t front chosen. IsLegal-given t front chosen;
  legal = λ t front. IsLegal-given_some t front;
  consistent = λ t. IsConsistent-given_some t;
  legal_in_width = λ t bits fit front. IsLegal-given_in_width t bits fit front;
  consistent_in_width = λ t bits fit. IsConsistent-given_in_width t bits fit;
}
