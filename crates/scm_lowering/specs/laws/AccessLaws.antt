-- `==` of accesses says whether they are the same.
use Rattle.std.proofs.Common.{rules, ◌≡◌, ℕ, List, Bool, ◌&&◌}
use Rattle.std.specs.Bool.{Decides}
use Rattle.scm_amo.specs.declared.kind.AmoKind.{AmoKind}
use Rattle.scm_amo.specs.contracts.kind.AmoKindPartialEq.TheImpl as kinds
use Rattle.scm_cells.specs.declared.width.Width.{Width}
use Rattle.scm_cells.specs.declared.number.Num.{Num}
use Rattle.scm_cells.specs.contracts.width.WidthPartialEq.TheImpl as widths
use Rattle.scm_cells.specs.contracts.number.NumPartialEq.TheImpl as nums
use Rattle.scm_cells.specs.laws.NameLaws.{name_eq-Decides}
use Rattle.scm_lowering.specs.declared.access.Access.{Access}
use Rattle.scm_lowering.specs.declared.access.Access.TheVariants.{Load, Store, Amo, ReadWrite}
use Rattle.scm_lowering.specs.contracts.access.AccessPartialEq.TheImpl as accesses

kind_eq-Decides : (a b : AmoKind) → Decides (kinds.ghosts.eq a b) (a ≡ b)
kind_eq-Decides a b = search rules

width_eq-Decides : (a b : Width) → Decides (widths.ghosts.eq a b) (a ≡ b)
width_eq-Decides a b = search rules

num_eq-Decides : (a b : Num) → Decides (nums.ghosts.eq a b) (a ≡ b)
num_eq-Decides a b = search rules

amo_Decides : (kinds widths cells operands olds : Bool) (kind k : AmoKind) (width w : Width) (cell c : List ℕ) (operand r : Num) (old o : Num)
    → Decides kinds (kind ≡ k) → Decides widths (width ≡ w) → Decides cells (cell ≡ c) → Decides operands (operand ≡ r) → Decides olds (old ≡ o)
    → Decides (kinds && (widths && (cells && (operands && olds)))) (Amo kind width cell operand old ≡ Amo k w c r o)
amo_Decides kinds widths cells operands olds kind k width w cell c operand r old o kinds_are widths_are cells_are operands_are olds_are = search rules

pub access_eq-Decides : (a b : Access) → Decides (accesses.ghosts.eq a b) (a ≡ b)
access_eq-Decides (Load width cell value) b = search (rules, name_eq-Decides)
access_eq-Decides (Store width cell value) b = search (rules, name_eq-Decides)
access_eq-Decides (ReadWrite cell old new) b = search (rules, name_eq-Decides)
access_eq-Decides (Amo kind width cell operand old) (Load w c v) = search rules
access_eq-Decides (Amo kind width cell operand old) (Store w c v) = search rules
access_eq-Decides (Amo kind width cell operand old) (ReadWrite c o n) = search rules
access_eq-Decides (Amo kind width cell operand old) (Amo k w c r o) =
    amo_Decides _ _ _ _ _ kind k width w cell c operand r old o (kind_eq-Decides kind k) (width_eq-Decides width w) (name_eq-Decides cell c) (num_eq-Decides operand r) (num_eq-Decides old o)
