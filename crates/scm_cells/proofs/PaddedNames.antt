-- How a name is kept.
use Rattle.std.proofs.Common.{ℕ, ◌≤◌, List, ◌++◌, length, drop, replicate, IsTrue, arith, length-append, length-drop}
use Rattle.std.proofs.lemmas.List.{drop-replicate, length-replicate}
use Rattle.std.proofs.Math.Seq.{take-append_seam, drop-append_seam}
use Rattle.std.proofs.lemmas.Bool.Decides.{nat_tests}
use Rattle.scm_sequences.specs.declared.limits.TheConstants.{LONGEST_NAME}
use Rattle.scm_cells.specs.CellLists.{is_name, IsPaddedName}

pub length-le-is_name : (word : List ℕ) → IsTrue (is_name word) → length word ≤ LONGEST_NAME
length-le-is_name word h = grind (arith, nat_tests)

-- a name and zeros behind it
pub IsPaddedName-zeros : (word : List ℕ) → IsTrue (is_name word) → IsPaddedName (word ++ drop (length word) (replicate LONGEST_NAME 0)) (length word)
IsPaddedName-zeros word h =
    let fits : length word ≤ LONGEST_NAME = length-le-is_name word h in
    record {
      room = simp (length-append, length-drop, length-replicate) (omega arith);
      fits = fits;
      rest = rw (drop-append_seam word, drop-replicate {X = ℕ} (length word) LONGEST_NAME 0);
      name = rw (take-append_seam word) h;
    }
