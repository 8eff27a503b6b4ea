use Rattle.std.proofs.Common.{◌<◌, ◌↔◌, List, All, IsTrue, Vec, Global, subst}
use Rattle.std.proofs.lemmas.List.Elements.{All-map}
use Rattle.scm_sequences.specs.declared.op.Op.{Op}
use Rattle.scm_sequences.specs.Sequences.{cell_of}
use Rattle.scm_sequences.proofs.Lists.{All-sequences_of}
use Rattle.scm_sequences.proofs.sequences.Sequences.names_cells_below.Goals as goal

pub returns : goal.returns
returns c =
    let P : List Op → Type 0 = λ ops. All (λ op. cell_of op < c.args.n) ops in
    let of_lists : IsTrue c.lists_below.result ↔ All (λ (list : Vec Op Global). P list.items) c.self.inside.lists.items =
    subst (λ (lists : List (Vec Op Global)). IsTrue c.lists_below.result ↔ All (λ (list : Vec Op Global). P list.items) lists) c.deref.ensures.value c.lists_below.ensures in
    subst (λ sequences. IsTrue c.lists_below.result ↔ All P sequences) c.self.view_is (
      (λ yes. All-map P (λ (list : Vec Op Global). list.items) c.self.inside.lists.items (of_lists.0 yes)),
      (λ all. of_lists.1 (All-sequences_of P c.self.inside.lists.items all)),
    )
