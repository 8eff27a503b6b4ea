use Rattle.scm_sequences.specs.laws.CutLaws.{IsLegal-schedule_cut}
use Rattle.test_set.proofs.judged.fixed_by.Goals as goal

pub fixed-requires-clause-legal : goal.fixed-requires-clause-legal
fixed-requires-clause-legal g c = IsLegal-schedule_cut _ _ _ (c.is_legal.ensures.0 c.if-is_legal.true)
