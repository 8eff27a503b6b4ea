-- What is known of the operation at a place from what it read or wrote.
use Rattle.std.proofs.Common.{ℕ, ◌≡◌, ◌≢◌, ◌<◌, ◌⊎◌, true, false, length, Option, None, Some, IsSome, option_and_then, refl, sym, ap, ap₂, ◌∙◌, subst, ⊎_elim, inl, inr}
use Rattle.std.proofs.lemmas.Bool.{cases_eq}
use Rattle.scm_sequences.specs.declared.op.Op.{Op}
use Rattle.scm_sequences.specs.Sequences.{cell_of, read_of, written_to, operations}
use Rattle.scm_sequences.specs.laws.SequenceLaws.{process_within, operation_within}
use Rattle.scm_sequences.specs.laws.FixedLaws.{read_of-other}
use Rattle.scm_sequences.specs.Traces.{Trace}
use Rattle.scm_orders.specs.declared.place.Place.{Place}
use Rattle.scm_orders.specs.declared.cut_trace.Reading.{Reading}
use Rattle.scm_orders.specs.Facts.{operation_at, read_at, written_at, IsReading}

-- what `IsSome` says of nothing
pub none_is : false ≡ true → ⊥
none_is h = cc

pub is_some_at : {A : Type 0} (o : Option A) (x : A) → o ≡ Some x → IsSome o
is_some_at o x is = subst IsSome (sym is) refl

pub some_first : {A B : Type 0} (f : A → Option B) (o : Option A) → IsSome (option_and_then f o) → IsSome o
some_first f None some = some
some_first f (Some x) some = refl

one_cell_of : (op : Op) (a b : ℕ) → IsSome (read_of op a) → IsSome (read_of op b) → a ≡ b
one_cell_of op a b reads_a reads_b = sym (at a reads_a) ∙ at b reads_b where
  at : (c : ℕ) → IsSome (read_of op c) → cell_of op ≡ c
  at c reads = ⊎_elim (λ same. same) (λ ne. absurd (none_is (subst IsSome (read_of-other op c ne) reads))) (cases_eq (cell_of op) c)

-- an operation reads one cell
pub one_cell : (t : Trace) (place : Place) (a b : ℕ) → IsSome (read_at t place a) → IsSome (read_at t place b) → a ≡ b
one_cell t place a b = go (operation_at t place) where
  go : (o : Option Op) → IsSome (option_and_then (λ op. read_of op a) o) → IsSome (option_and_then (λ op. read_of op b) o) → a ≡ b
  go None reads_a reads_b = absurd (none_is reads_a)
  go (Some op) reads_a reads_b = one_cell_of op a b reads_a reads_b

pub same_place : (a b : Place) → (a ≡ b) ⊎ (a ≢ b)
same_place a b = ⊎_elim
    (λ process. ⊎_elim (λ at. inl (ap₂ (λ p k. place p k) process at)) (λ other. inr (λ same. other (ap (λ (x : Place). x.at) same))) (cases_eq a.at b.at))
    (λ other. inr (λ same. other (ap (λ (x : Place). x.process) same)))
    (cases_eq a.process b.process) where
      place : ℕ → ℕ → Place
      place p k = record { process = p; at = k }

-- an operation reads a cell, or none
pub reads_or_not : (t : Trace) (place : Place) → ((cell : ℕ) × (value : ℕ) × (read_at t place cell ≡ Some value)) ⊎ ((cell : ℕ) → IsSome (read_at t place cell) → ⊥)
reads_or_not t place = go (operation_at t place) where
  at : (op : Op) (o : Option ℕ) → read_of op (cell_of op) ≡ o → ((cell : ℕ) × (value : ℕ) × (read_of op cell ≡ Some value)) ⊎ ((cell : ℕ) → IsSome (read_of op cell) → ⊥)
  at op None e = inr (λ cell reads. ⊎_elim
      (λ same. none_is (subst IsSome (ap (read_of op) (sym same) ∙ e) reads))
      (λ ne. none_is (subst IsSome (read_of-other op cell ne) reads))
      (cases_eq (cell_of op) cell))
  at op (Some value) e = inl (cell_of op, value, e)

  go : (o : Option Op) → ((cell : ℕ) × (value : ℕ) × (option_and_then (λ op. read_of op cell) o ≡ Some value)) ⊎ ((cell : ℕ) → IsSome (option_and_then (λ op. read_of op cell) o) → ⊥)
  go None = inr (λ cell reads. none_is reads)
  go (Some op) = at op (read_of op (cell_of op)) refl

-- and one value there
pub one_reading : (t : Trace) (place : Place) (a b : Reading) → IsReading t place a → IsReading t place b → a ≡ b
one_reading t place a b is_a is_b = ap (λ x. reading_of x a.cell a.value) at ∙ ap₂ (reading_of b.place) cell value where
  reading_of : Place → ℕ → ℕ → Reading
  reading_of place cell value = record { place = place; cell = cell; value = value }

  at : a.place ≡ b.place
  at = is_a.at ∙ sym is_b.at

  reads : read_at t b.place a.cell ≡ Some a.value
  reads = subst (λ x. read_at t x a.cell ≡ Some a.value) at is_a.reads

  cell : a.cell ≡ b.cell
  cell = one_cell t b.place a.cell b.cell (is_some_at (read_at t b.place a.cell) a.value reads) (is_some_at (read_at t b.place b.cell) b.value is_b.reads)

  value : a.value ≡ b.value
  value = let same : Some a.value ≡ Some b.value = sym reads ∙ ap (read_at t b.place) cell ∙ is_b.reads in cc

-- what writes is an operation of a process of the trace
pub written_within : (t : Trace) (w : Place) (cell value : ℕ) → written_at t w cell ≡ Some value → (w.process < length t.sequences) × (w.at < length (operations t.sequences w.process))
written_within t w cell value wrote = go (operation_at t w) refl wrote where
  go : (o : Option Op) → operation_at t w ≡ o → option_and_then (λ op. written_to op cell) o ≡ Some value → (w.process < length t.sequences) × (w.at < length (operations t.sequences w.process))
  go None e is = absurd (let f : ◌≡◌ {A = Option ℕ} None (Some value) = is in cc)
  go (Some op) e is = (process_within t.sequences w.process w.at op e, operation_within t.sequences w.process w.at op e)
