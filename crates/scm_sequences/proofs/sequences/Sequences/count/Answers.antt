use Rattle.std.proofs.Common.{◌≡◌, ◌≤◌, length, arith, subst, sym}
use Rattle.std.proofs.lemmas.Grind.{common_steps}
use Rattle.scm_sequences.specs.declared.limits.TheConstants.{MOST_OPERATIONS}
use Rattle.scm_sequences.specs.Sequences.{operations, AreSequences}
use Rattle.scm_sequences.specs.laws.SequenceLaws.{AreSequences-short}
use Rattle.scm_sequences.proofs.sequences.Sequences.count.Goals as goal

pub returns-clause-most : goal.returns-clause-most
returns-clause-most c =
    let counted : c.map_or.result ≡ length (operations c.args.self.now c.args.p) = grind (arith, common_steps) in
    let are : AreSequences c.args.self.now = subst AreSequences c.self.view_is c.self.invariant in
    subst (λ n. n ≤ MOST_OPERATIONS) (sym counted) (AreSequences-short c.args.self.now c.args.p are)
