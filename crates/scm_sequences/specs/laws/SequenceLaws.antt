-- The laws of sequences of operations: how they are read after a push and after a cut.
use Rattle.std.proofs.Common.{ℕ, zero, suc, ◌≡◌, ◌≢◌, ◌+◌, ◌<◌, ◌≤◌, min, List, [], ◌∷◌, ◌++◌, length, take, get_or, None, Some, slice_get, slice_index, replicate, slice_index_or, All, sym, refl, ap, ap₂, ◌∙◌, subst, ⊎_elim, arith}
use Rattle.std.proofs.Math.Seq.{take-nil}
use Rattle.std.proofs.lemmas.Bool.{cases_lt, cases_eq, ltb-true, ltb-false, lt-ltb, cond-true}
use Rattle.std.proofs.lemmas.Option.{slice_get_past, slice_get_within, slice_get-get_or, get_or_from_slice_get}
use Rattle.std.proofs.lemmas.List.{length-set, length-map, length-take, length-replicate, length_push, get_or-set_same, get_or-set_other, get_or_past, ext_get_or, set_past, take_all, get_or_default}
use Rattle.std.proofs.lemmas.List.Elements.{All-head, All-tail, All-nil, All-get_or, All-set, All-push, All-replicate, All-from_get_or}
use Rattle.scm_sequences.specs.declared.op.Op.{Op}
use Rattle.scm_sequences.specs.declared.limits.TheConstants.{MOST_OPERATIONS, MOST_PROCESSES}
use Rattle.scm_sequences.specs.Sequences.{cell_of, NamesCellsBelow, IsWithin, operations, operation, lengths_of, pushed, push_refusal, cut_lists, AreSequences}

-- ---- what is read of a list

slice_get-take : {X : Type 0} (n : ℕ) (xs : List X) (k : ℕ) → k < n → slice_get (take n xs) k ≡ slice_get xs k
slice_get-take zero xs k h = absurd (omega (arith, h))
slice_get-take (suc n) [] k h = refl
slice_get-take (suc n) (x ∷ xs) zero h = refl
slice_get-take (suc n) (x ∷ xs) (suc k) h = slice_get-take n xs k (omega arith)

slice_get-append_left : {X : Type 0} (xs ys : List X) (k : ℕ) → k < length xs → slice_get (xs ++ ys) k ≡ slice_get xs k
slice_get-append_left [] ys k h = absurd (omega (arith, h))
slice_get-append_left (x ∷ xs) ys zero h = refl
slice_get-append_left (x ∷ xs) ys (suc k) h = slice_get-append_left xs ys k (omega arith)

-- ---- operations, and the operation at a place

pub operation-operations : (sequences : List (List Op)) (p k : ℕ) → operation sequences p k ≡ slice_get (operations sequences p) k
operation-operations [] p k = refl
operation-operations (ops ∷ others) zero k = refl
operation-operations (ops ∷ others) (suc p) k = operation-operations others p k

-- there is an operation at each place below the length, and at none past it
pub operation_past : (sequences : List (List Op)) (p k : ℕ) → length (operations sequences p) ≤ k → operation sequences p k ≡ None
operation_past sequences p k h = operation-operations sequences p k ∙ slice_get_past (operations sequences p) k h

pub operation_within : (sequences : List (List Op)) (p k : ℕ) (op : Op) → operation sequences p k ≡ Some op → k < length (operations sequences p)
operation_within sequences p k op e = slice_get_within (operations sequences p) k op (sym (operation-operations sequences p k) ∙ e)

pub operation-at : (sequences : List (List Op)) (p k : ℕ) (d : Op) → k < length (operations sequences p) → operation sequences p k ≡ Some (slice_index_or (operations sequences p) k d)
operation-at sequences p k d h = operation-operations sequences p k ∙ slice_get-get_or (operations sequences p) k d h

-- no process past the last has operations
pub operations_past : (sequences : List (List Op)) (p : ℕ) → length sequences ≤ p → operations sequences p ≡ []
operations_past sequences p h = get_or_past sequences p [] h

pub process_within : (sequences : List (List Op)) (p k : ℕ) (op : Op) → operation sequences p k ≡ Some op → p < length sequences
process_within sequences p k op e = ⊎_elim (λ h. h) (λ past. absurd (let none : operations sequences p ≡ [] = operations_past sequences p past in let short : length (operations sequences p) ≡ 0 = ap length none in let in' = operation_within sequences p k op e in omega arith)) (cases_lt p (length sequences))

-- ---- lengths

pub length-lengths_of : (sequences : List (List Op)) → length (lengths_of sequences) ≡ length sequences
length-lengths_of sequences = length-map sequences length

pub slice_index-lengths_of : (sequences : List (List Op)) (p : ℕ) → slice_index (lengths_of sequences) p ≡ length (operations sequences p)
slice_index-lengths_of [] p = refl
slice_index-lengths_of (ops ∷ others) zero = refl
slice_index-lengths_of (ops ∷ others) (suc p) = slice_index-lengths_of others p

-- ---- the cells that are named

-- what holds of each sequence, and of an empty one, holds of the operations of any process
operations-all : (P : List Op → Type 0) (sequences : List (List Op)) (p : ℕ) → P [] → All P sequences → P (operations sequences p)
operations-all P [] p none all = none
operations-all P (ops ∷ others) zero none all = All-head P ops others all
operations-all P (ops ∷ others) (suc p) none all = operations-all P others p none (All-tail P ops others all)

pub NamesCellsBelow-operation : (n : ℕ) (sequences : List (List Op)) (p k : ℕ) (op : Op) → NamesCellsBelow n sequences → operation sequences p k ≡ Some op → cell_of op < n
NamesCellsBelow-operation n sequences p k op names e =
    let here : All (λ o. cell_of o < n) (operations sequences p) = operations-all (λ ops. All (λ o. cell_of o < n) ops) sequences p (All-nil (λ o. cell_of o < n)) names in
    let below : cell_of (get_or (operations sequences p) k op) < n = All-get_or (λ o. cell_of o < n) (operations sequences p) k op (operation_within sequences p k op e) here in
    subst (λ o. cell_of o < n) (get_or_from_slice_get (operations sequences p) k op op (sym (operation-operations sequences p k) ∙ e)) below

pub NamesCellsBelow-from_operations : (n : ℕ) (sequences : List (List Op)) → ((p k : ℕ) (op : Op) → operation sequences p k ≡ Some op → cell_of op < n) → NamesCellsBelow n sequences
NamesCellsBelow-from_operations n sequences each = λ p ops in_p k op in_k. go p ops in_p k op in_k where
  go : (p : ℕ) (ops : List Op) → p < length sequences → (k : ℕ) (op : Op) → k < length (slice_index_or sequences p ops) → cell_of (slice_index_or (slice_index_or sequences p ops) k op) < n
  go p ops in_p k op in_k =
      let same : slice_index_or sequences p ops ≡ operations sequences p = get_or_default sequences p ops [] in_p in
      subst (λ list. cell_of (slice_index_or list k op) < n) (sym same)
      (each p k (slice_index_or (operations sequences p) k op) (operation-at sequences p k op (subst (λ list. k < length list) same in_k)))

-- ---- one more operation

pub length-pushed : (sequences : List (List Op)) (p : ℕ) (op : Op) → length (pushed sequences p op) ≡ length sequences
length-pushed sequences p op = length-set sequences p (operations sequences p ++ op ∷ [])

pub operations-pushed_here : (sequences : List (List Op)) (p : ℕ) (op : Op) → p < length sequences → operations (pushed sequences p op) p ≡ operations sequences p ++ op ∷ []
operations-pushed_here sequences p op h = get_or-set_same sequences p (operations sequences p ++ op ∷ []) [] h

pub operations-pushed_other : (sequences : List (List Op)) (p : ℕ) (op : Op) (q : ℕ) → q ≢ p → operations (pushed sequences p op) q ≡ operations sequences q
operations-pushed_other sequences p op q h = get_or-set_other sequences p q (operations sequences p ++ op ∷ []) [] h

-- each operation stays at its place
pub operation-pushed : (sequences : List (List Op)) (p : ℕ) (op : Op) (q k : ℕ) → k < length (operations sequences q) → operation (pushed sequences p op) q k ≡ operation sequences q k
operation-pushed sequences p op q k h = ⊎_elim here other (cases_eq q p) where
  back : slice_get (operations sequences q) k ≡ operation sequences q k
  back = sym (operation-operations sequences q k)

  in_p : p < length sequences → q ≡ p → operation (pushed sequences p op) q k ≡ operation sequences q k
  in_p within same =
      operation-operations (pushed sequences p op) q k
      ∙ ap (λ ops. slice_get ops k) (ap (operations (pushed sequences p op)) same ∙ operations-pushed_here sequences p op within ∙ ap (λ r. operations sequences r ++ op ∷ []) (sym same))
      ∙ slice_get-append_left (operations sequences q) (op ∷ []) k h ∙ back

  here : q ≡ p → operation (pushed sequences p op) q k ≡ operation sequences q k
  here same = ⊎_elim (λ within. in_p within same) (λ past. ap (λ s. operation s q k) (set_past sequences p (operations sequences p ++ op ∷ []) past)) (cases_lt p (length sequences))

  other : q ≢ p → operation (pushed sequences p op) q k ≡ operation sequences q k
  other ne = operation-operations (pushed sequences p op) q k ∙ ap (λ ops. slice_get ops k) (operations-pushed_other sequences p op q ne) ∙ back

pub NamesCellsBelow-pushed : (n : ℕ) (sequences : List (List Op)) (p : ℕ) (op : Op) → NamesCellsBelow n sequences → cell_of op < n → NamesCellsBelow n (pushed sequences p op)
NamesCellsBelow-pushed n sequences p op names below =
    let P : Op → Type 0 = λ o. cell_of o < n in
    All-set (All P) sequences p (operations sequences p ++ op ∷ [])
    (All-push P (operations sequences p) op (operations-all (All P) sequences p (All-nil P) names) below) names

-- when a push is not refused, and when it is
pub push_refusal-none : (sequences : List (List Op)) (p : ℕ) → push_refusal sequences p ≡ None → (p < length sequences) × (length (operations sequences p) < MOST_OPERATIONS)
push_refusal-none sequences p e = grind (arith, ltb-true, ltb-false)

pub push_refusal-from_room : (sequences : List (List Op)) (p : ℕ) → p < length sequences → length (operations sequences p) < MOST_OPERATIONS → push_refusal sequences p ≡ None
push_refusal-from_room sequences p in_p room = cond-true _ _ _ (lt-ltb p (length sequences) in_p) ∙ cond-true _ _ _ (lt-ltb (length (operations sequences p)) MOST_OPERATIONS room)

pub AreSequences-short : (sequences : List (List Op)) (p : ℕ) → AreSequences sequences → length (operations sequences p) ≤ MOST_OPERATIONS
AreSequences-short sequences p are = operations-all (λ ops. length ops ≤ MOST_OPERATIONS) sequences p (omega arith) are.short

pub AreSequences-pushed : (sequences : List (List Op)) (p : ℕ) (op : Op) → AreSequences sequences → push_refusal sequences p ≡ None → AreSequences (pushed sequences p op)
AreSequences-pushed sequences p op are free =
    let room = push_refusal-none sequences p free in
    let as_many : length (pushed sequences p op) ≡ length sequences = length-pushed sequences p op in
    let longer : length (operations sequences p ++ op ∷ []) ≡ length (operations sequences p) + 1 = length_push (operations sequences p) op in
    record {
      some = omega (arith, as_many, are.some);
      procs = omega (arith, as_many, are.procs);
      short = All-set (λ ops. length ops ≤ MOST_OPERATIONS) sequences p (operations sequences p ++ op ∷ []) (omega (arith, longer, room.1)) are.short;
    }

-- ---- a cut

pub length-cut_lists : (sequences : List (List Op)) (lengths : List ℕ) → length (cut_lists sequences lengths) ≡ length sequences
length-cut_lists [] lengths = refl
length-cut_lists (ops ∷ others) [] = ap suc (length-cut_lists others [])
length-cut_lists (ops ∷ others) (n ∷ lengths) = ap suc (length-cut_lists others lengths)

pub operations-cut_lists : (sequences : List (List Op)) (lengths : List ℕ) (p : ℕ) → operations (cut_lists sequences lengths) p ≡ take (slice_index lengths p) (operations sequences p)
operations-cut_lists [] lengths p = sym (take-nil (slice_index lengths p))
operations-cut_lists (ops ∷ others) [] zero = refl
operations-cut_lists (ops ∷ others) [] (suc p) = operations-cut_lists others [] p
operations-cut_lists (ops ∷ others) (n ∷ lengths) zero = refl
operations-cut_lists (ops ∷ others) (n ∷ lengths) (suc p) = operations-cut_lists others lengths p

pub operation-cut_lists : (sequences : List (List Op)) (lengths : List ℕ) (p k : ℕ) → k < slice_index lengths p → operation (cut_lists sequences lengths) p k ≡ operation sequences p k
operation-cut_lists sequences lengths p k h =
    operation-operations (cut_lists sequences lengths) p k ∙ ap (λ ops. slice_get ops k) (operations-cut_lists sequences lengths p)
    ∙ slice_get-take (slice_index lengths p) (operations sequences p) k h ∙ sym (operation-operations sequences p k)

pub length-operations_cut : (sequences : List (List Op)) (lengths : List ℕ) (p : ℕ) → length (operations (cut_lists sequences lengths) p) ≡ min (slice_index lengths p) (length (operations sequences p))
length-operations_cut sequences lengths p = ap length (operations-cut_lists sequences lengths p) ∙ length-take (slice_index lengths p) (operations sequences p)

pub operation-cut_lists_past : (sequences : List (List Op)) (lengths : List ℕ) (p k : ℕ) → slice_index lengths p ≤ k → operation (cut_lists sequences lengths) p k ≡ None
operation-cut_lists_past sequences lengths p k h =
    let short : length (operations (cut_lists sequences lengths) p) ≡ min (slice_index lengths p) (length (operations sequences p)) = length-operations_cut sequences lengths p in
    operation_past (cut_lists sequences lengths) p k (omega arith)

pub lengths_of-cut_lists : (sequences : List (List Op)) (lengths : List ℕ) → IsWithin lengths (lengths_of sequences) → lengths_of (cut_lists sequences lengths) ≡ lengths
lengths_of-cut_lists sequences lengths within =
    ext_get_or 0 (lengths_of (cut_lists sequences lengths)) lengths
    (length-lengths_of (cut_lists sequences lengths) ∙ length-cut_lists sequences lengths ∙ sym (within.procs ∙ length-lengths_of sequences))
    (λ p _. at p) where
      at : (p : ℕ) → slice_index (lengths_of (cut_lists sequences lengths)) p ≡ slice_index lengths p
      at p =
          let most : slice_index lengths p ≤ slice_index (lengths_of sequences) p = within.none_greater p in
          let whole : slice_index (lengths_of sequences) p ≡ length (operations sequences p) = slice_index-lengths_of sequences p in
          slice_index-lengths_of (cut_lists sequences lengths) p ∙ length-operations_cut sequences lengths p ∙ omega arith

-- a cut at the lengths changes nothing
pub cut_lists-whole : (sequences : List (List Op)) → cut_lists sequences (lengths_of sequences) ≡ sequences
cut_lists-whole [] = refl
cut_lists-whole (ops ∷ others) = ap₂ ◌∷◌ (take_all (length ops) ops (omega arith)) (cut_lists-whole others)

-- sequences are equal where they are as many and each process has the same operations
pub same_sequences : (s u : List (List Op)) → length s ≡ length u → ((p : ℕ) → operations s p ≡ operations u p) → s ≡ u
same_sequences s u as_many same = ext_get_or [] s u as_many (λ p _. same p)

pub NamesCellsBelow-cut_lists : (n : ℕ) (sequences : List (List Op)) (lengths : List ℕ) → NamesCellsBelow n sequences → NamesCellsBelow n (cut_lists sequences lengths)
NamesCellsBelow-cut_lists n sequences lengths names = NamesCellsBelow-from_operations n (cut_lists sequences lengths) each where
  each : (p k : ℕ) (op : Op) → operation (cut_lists sequences lengths) p k ≡ Some op → cell_of op < n
  each p k op e =
      let short : length (operations (cut_lists sequences lengths) p) ≡ min (slice_index lengths p) (length (operations sequences p)) = length-operations_cut sequences lengths p in
      let in' : k < length (operations (cut_lists sequences lengths) p) = operation_within (cut_lists sequences lengths) p k op e in
      NamesCellsBelow-operation n sequences p k op names (sym (operation-cut_lists sequences lengths p k (omega arith)) ∙ e)

pub AreSequences-cut_lists : (sequences : List (List Op)) (lengths : List ℕ) → AreSequences sequences → AreSequences (cut_lists sequences lengths)
AreSequences-cut_lists sequences lengths are =
    let as_many : length (cut_lists sequences lengths) ≡ length sequences = length-cut_lists sequences lengths in
    record {
      some = omega (arith, as_many, are.some);
      procs = omega (arith, as_many, are.procs);
      short = All-from_get_or (λ ops. length ops ≤ MOST_OPERATIONS) (cut_lists sequences lengths) [] (λ p _. at p);
    } where
      at : (p : ℕ) → length (operations (cut_lists sequences lengths) p) ≤ MOST_OPERATIONS
      at p =
          let short : length (operations (cut_lists sequences lengths) p) ≡ min (slice_index lengths p) (length (operations sequences p)) = length-operations_cut sequences lengths p in
          let most : length (operations sequences p) ≤ MOST_OPERATIONS = AreSequences-short sequences p are in
          omega arith

-- ---- sequences with no operation

pub AreSequences-replicate : (procs : ℕ) → 0 < procs → procs ≤ MOST_PROCESSES → AreSequences (replicate procs [])
AreSequences-replicate procs least most =
    let as_many : length (replicate procs (nothing)) ≡ procs = length-replicate procs nothing in
    record {
      some = omega (arith, as_many);
      procs = omega (arith, as_many);
      short = All-replicate (λ ops. length ops ≤ MOST_OPERATIONS) procs nothing (omega arith);
    } where
      nothing : List Op
      nothing = []
