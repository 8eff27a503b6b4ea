-- Lists of vectors of operations, and the sequences that a contract sees of them.
use Rattle.std.proofs.Common.{ℕ, ◌≡◌, ◌<◌, ◌≤◌, Bool, true, false, List, [], ◌∷◌, ◌++◌, length, map, get_or, set, slice_index, if◌then◌else◌, All, Vec, Global, Result, Ok, Err, is_ok, OnOk, OnErr, take, sym, ap, refl, subst, ◌∙◌}
use Rattle.std.proofs.lemmas.List.{map-set, set-get_or, get_or-map, length-map, length-take-le, get_or-take, ext_get_or}
use Rattle.scm_sequences.specs.declared.op.Op.{Op}
use Rattle.scm_sequences.specs.Sequences.{operations, pushed, lengths_of}
use Rattle.scm_sequences.specs.laws.SequenceLaws.{length-lengths_of}

-- the sequences of these vectors
abbrev pub sequences_of : List (Vec Op Global) → List (List Op)
sequences_of lists = map (λ list. list.items) lists

pub operations-sequences_of : (lists : List (Vec Op Global)) (p : ℕ) (list : Vec Op Global) → p < length lists → list ≡ get_or lists p list → operations (sequences_of lists) p ≡ list.items
operations-sequences_of lists p list within read = get_or-map (λ (v : Vec Op Global). v.items) lists p list [] within ∙ ap (λ (v : Vec Op Global). v.items) (sym read)

-- a vector that is replaced by one with an operation more, or by its equal
pub sequences_of-set : (lists : List (Vec Op Global)) (p : ℕ) (list new : Vec Op Global) (op : Op) (added : Bool) → p < length lists → list ≡ get_or lists p list
    → new.items ≡ (if added then list.items ++ op ∷ [] else list.items) → sequences_of (set lists p new) ≡ (if added then pushed (sequences_of lists) p op else sequences_of lists)
sequences_of-set lists p list new op added within read is =
    map-set (λ (v : Vec Op Global). v.items) lists p new ∙ ap (set (sequences_of lists) p) is ∙ go added where
      here : operations (sequences_of lists) p ≡ list.items
      here = operations-sequences_of lists p list within read

      go : (b : Bool) → set (sequences_of lists) p (if b then list.items ++ op ∷ [] else list.items) ≡ (if b then pushed (sequences_of lists) p op else sequences_of lists)
      go true = ap (λ ops. set (sequences_of lists) p (ops ++ op ∷ [])) (sym here)
      go false = ap (set (sequences_of lists) p) (sym here) ∙ set-get_or (sequences_of lists) p []

-- what holds of each vector's operations holds of each sequence
pub All-sequences_of : (P : List Op → Type 0) (lists : List (Vec Op Global)) → All P (sequences_of lists) → All (λ list. P list.items) lists
All-sequences_of P lists all = λ k d h. subst P (get_or-map (λ (v : Vec Op Global). v.items) lists k d [] h) (all k [] (subst (λ n. k < n) (sym (length-map lists (λ (v : Vec Op Global). v.items))) h))

pub length-sequences_of : (lists : List (Vec Op Global)) → length (sequences_of lists) ≡ length lists
length-sequences_of lists = length-map lists (λ (v : Vec Op Global). v.items)

-- a clause on `Ok` or on `Err`, by the test which of them it is
pub OnOk-from : {T E P : Type 0} (r : Result T E) → (is_ok r ≡ true → P) → OnOk r P
OnOk-from (Ok x) h = h refl
OnOk-from (Err e) h = tt

pub OnErr-from : {T E P : Type 0} (r : Result T E) → (is_ok r ≡ false → P) → OnErr r P
OnErr-from (Ok x) h = tt
OnErr-from (Err e) h = h refl

-- the lengths of the sequences, from those that were counted one by one
pub lengths_of-counted : (sequences : List (List Op)) (counts : List ℕ) → length sequences ≤ length counts → ((k : ℕ) → k < length sequences → slice_index counts k ≡ slice_index (lengths_of sequences) k) → take (length sequences) counts ≡ lengths_of sequences
lengths_of-counted sequences counts room counted =
    let n : ℕ = length sequences in
    let as_many : length (take n counts) ≡ n = length-take-le n counts room in
    ext_get_or 0 (take n counts) (lengths_of sequences) (as_many ∙ sym (length-lengths_of sequences))
    (λ k h. let below : k < n = subst (λ m. k < m) as_many h in get_or-take n counts k 0 below ∙ counted k below)
