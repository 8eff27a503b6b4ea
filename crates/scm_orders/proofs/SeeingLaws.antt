-- What a read of a legal front sees: the last write before it, or first contents, which are one value for all that see them.
use Rattle.std.proofs.Common.{ℕ, ◌≡◌, ◌≢◌, ◌<◌, ◌≤◌, ◌⊎◌, Bool, List, [], ◌∷◌, length, Option, None, Some, IsSome, IsTrue, if◌then◌else◌, refl, sym, ap, ◌∙◌, subst, ⊎_elim, inl, inr, arith}
use Rattle.std.specs.Option.{option_or, option_and_then}
use Rattle.std.proofs.lemmas.Bool.{cases_eq, cases_lt, eq-eqb, ne_eqb, eqb-true}
use Rattle.scm_sequences.specs.declared.op.Op.{Op}
use Rattle.scm_sequences.specs.declared.op.Op.TheVariants.{R, W, Rw}
use Rattle.scm_sequences.specs.Sequences.{cell_of, read_of, may_give, finds}
use Rattle.scm_sequences.specs.Traces.{Trace, initial_of, count_in, following, last_written, first_read, value_before, IsLegal}
use Rattle.scm_sequences.specs.laws.FrontLaws.{last_written-nil, last_written-step, first_read-step, value_before-is, IsLegal-earlier, IsLegal-operation, IsLegal-finds}
use Rattle.scm_orders.specs.declared.place.Place.{Place}
use Rattle.scm_orders.specs.Facts.{read_at, written_at}
use Rattle.scm_orders.specs.inner.Moments.{moment}
use Rattle.scm_orders.proofs.PlaceLaws.{none_is, is_some_at}
use Rattle.scm_orders.proofs.MomentLaws.{place_of, IsIn, moment-earlier, moment-newest, IsIn-earlier, IsIn-newest, is_newest, moment-below}

-- the newest place of a front
abbrev newest : ℕ → List ℕ → Place
newest p earlier = place_of p (count_in earlier p)

-- ---- the last write of a cell

pub record LastWrite (t : Trace) (front : List ℕ) (cell value : ℕ) : Type 0 where
  pub write : Place
  pub inside : IsIn front write
  pub wrote : written_at t write cell ≡ Some value
  pub last : (x : Place) → IsIn front x → IsSome (written_at t x cell) → moment front x ≤ moment front write

pub last_write : (t : Trace) (front : List ℕ) (cell value : ℕ) → last_written t front cell ≡ Some value → LastWrite t front cell value
last_write t [] cell value is = let none : last_written t [] cell ≡ None = last_written-nil t cell in absurd (let e : ◌≡◌ {A = Option ℕ} None (Some value) = sym none ∙ is in cc)
last_write t (p ∷ earlier) cell value is = go (written_at t (newest p earlier) cell) refl (sym (last_written-step t p earlier cell) ∙ is) (last_write t earlier cell value) where
  go : (o : Option ℕ) → written_at t (newest p earlier) cell ≡ o → option_or o (last_written t earlier cell) ≡ Some value → (last_written t earlier cell ≡ Some value → LastWrite t earlier cell value) → LastWrite t (p ∷ earlier) cell value
  go (Some u) here e before = record {
    write = newest p earlier;
    inside = IsIn-newest p earlier;
    wrote = here ∙ e;
    last = λ x inside _. let below : moment (p ∷ earlier) x < length (p ∷ earlier) = moment-below (p ∷ earlier) x inside in
        let top : moment (p ∷ earlier) (newest p earlier) ≡ length earlier = moment-newest p earlier (newest p earlier) (omega arith) in omega arith;
  }
  go None here e before = lifted (before e) where
    lifted : LastWrite t earlier cell value → LastWrite t (p ∷ earlier) cell value
    lifted found = record {
      write = found.write;
      inside = IsIn-earlier p earlier found.write found.inside;
      wrote = found.wrote;
      last = λ x inside writes. ⊎_elim
          (λ in'. let a : moment (p ∷ earlier) x ≡ moment earlier x = moment-earlier p earlier x in' in
          let b : moment (p ∷ earlier) found.write ≡ moment earlier found.write = moment-earlier p earlier found.write found.inside in
          let known : moment earlier x ≤ moment earlier found.write = found.last x in' writes in omega arith)
          (λ past. absurd (none_is (subst IsSome (ap (λ y. written_at t y cell) (is_newest p earlier x inside past) ∙ here) writes)))
          (cases_lt x.at (count_in earlier x.process));
    }

pub none_written : (t : Trace) (front : List ℕ) (cell : ℕ) → last_written t front cell ≡ None → (x : Place) → IsIn front x → IsSome (written_at t x cell) → ⊥
none_written t [] cell is x inside writes = let top : moment [] x < 0 = moment-below [] x inside in omega arith
none_written t (p ∷ earlier) cell is x inside writes = go (written_at t (newest p earlier) cell) refl (sym (last_written-step t p earlier cell) ∙ is) (none_written t earlier cell) where
  go : (o : Option ℕ) → written_at t (newest p earlier) cell ≡ o → option_or o (last_written t earlier cell) ≡ None
      → (last_written t earlier cell ≡ None → (x : Place) → IsIn earlier x → IsSome (written_at t x cell) → ⊥) → ⊥
  go (Some u) here e before = cc
  go None here e before = ⊎_elim
      (λ in'. before e x in' writes)
      (λ past. none_is (subst IsSome (ap (λ y. written_at t y cell) (is_newest p earlier x inside past) ∙ here) writes))
      (cases_lt x.at (count_in earlier x.process))

-- ---- what a read finds

finds_read : (op : Op) (cell value : ℕ) (f : ℕ → Option ℕ) → read_of op cell ≡ Some value → IsTrue (finds op f) → option_or (f cell) (Some value) ≡ Some value
finds_read op cell value f reads found = ⊎_elim (here op reads found) (other op reads) (cases_eq (cell_of op) cell) where
  given : (o : Option ℕ) (d : ℕ) → d ≡ value → IsTrue (may_give o d) → option_or o (Some value) ≡ Some value
  given None d same h = refl
  given (Some x) d same h = ap Some (eqb-true x d h ∙ same)

  here : (op : Op) → read_of op cell ≡ Some value → IsTrue (finds op f) → cell_of op ≡ cell → option_or (f cell) (Some value) ≡ Some value
  here (R c d) reads found same =
      let taken : Some d ≡ Some value = subst (λ (b : Bool). (if b then Some d else None) ≡ Some value) (eq-eqb c cell same) reads in
      given (f cell) d (let e : d ≡ value = cc in e) (subst (λ a. IsTrue (may_give (f a) d)) same found)
  here (W c d) reads found same = absurd (let e : ◌≡◌ {A = Option ℕ} None (Some value) = reads in cc)
  here (Rw c d n) reads found same =
      let taken : Some d ≡ Some value = subst (λ (b : Bool). (if b then Some d else None) ≡ Some value) (eq-eqb c cell same) reads in
      given (f cell) d (let e : d ≡ value = cc in e) (subst (λ a. IsTrue (may_give (f a) d)) same found)

  other : (op : Op) → read_of op cell ≡ Some value → cell_of op ≢ cell → option_or (f cell) (Some value) ≡ Some value
  other (R c d) reads ne = absurd (let e : ◌≡◌ {A = Option ℕ} None (Some value) = subst (λ (b : Bool). (if b then Some d else None) ≡ Some value) (ne_eqb c cell ne) reads in cc)
  other (W c d) reads ne = absurd (let e : ◌≡◌ {A = Option ℕ} None (Some value) = reads in cc)
  other (Rw c d n) reads ne = absurd (let e : ◌≡◌ {A = Option ℕ} None (Some value) = subst (λ (b : Bool). (if b then Some d else None) ≡ Some value) (ne_eqb c cell ne) reads in cc)

-- the newest place finds what it reads in what was written last, and else at first, and else by the first read
newest_finds : (t : Trace) (p : ℕ) (earlier : List ℕ) (cell value : ℕ) → IsLegal t (p ∷ earlier) → read_at t (newest p earlier) cell ≡ Some value
    → option_or (option_or (last_written t earlier cell) (option_or (initial_of t cell) (first_read t earlier cell))) (Some value) ≡ Some value
newest_finds t p earlier cell value legal reads =
    let found : (op : Op) × (following t earlier p ≡ Some op) = IsLegal-operation t p earlier legal in
    let read : read_of found.0 cell ≡ Some value = sym (ap (option_and_then (λ op. read_of op cell)) found.1) ∙ reads in
    ap (λ o. option_or o (Some value)) (sym (value_before-is t earlier cell))
    ∙ finds_read found.0 cell value (value_before t earlier) read (IsLegal-finds t p earlier found.0 legal found.1)

-- ---- what it sees

pub record SeesWrite (t : Trace) (front : List ℕ) (cell value : ℕ) (read : Place) : Type 0 where
  pub write : Place
  pub inside : IsIn front write
  pub wrote : written_at t write cell ≡ Some value
  pub before : moment front write < moment front read
  pub last : (x : Place) → IsIn front x → IsSome (written_at t x cell) → moment front x < moment front read → moment front x ≤ moment front write

pub record SeesNone (t : Trace) (front : List ℕ) (cell : ℕ) (read : Place) : Type 0 where
  pub none : (x : Place) → IsIn front x → IsSome (written_at t x cell) → moment front read ≤ moment front x

-- the same of a longer front
SeesWrite-longer : (t : Trace) (p : ℕ) (earlier : List ℕ) (cell value : ℕ) (read : Place) → IsIn earlier read → SeesWrite t earlier cell value read → SeesWrite t (p ∷ earlier) cell value read
SeesWrite-longer t p earlier cell value read in_read found =
    let at : moment (p ∷ earlier) read ≡ moment earlier read = moment-earlier p earlier read in_read in
    let wrote : moment (p ∷ earlier) found.write ≡ moment earlier found.write = moment-earlier p earlier found.write found.inside in
    record {
      write = found.write;
      inside = IsIn-earlier p earlier found.write found.inside;
      wrote = found.wrote;
      before = omega (arith, found.before);
      last = λ x inside writes sooner. ⊎_elim
          (λ in'. let same : moment (p ∷ earlier) x ≡ moment earlier x = moment-earlier p earlier x in' in
          let known : moment earlier x ≤ moment earlier found.write = found.last x in' writes (omega arith) in omega arith)
          (λ past. let top : moment (p ∷ earlier) x ≡ length earlier = moment-newest p earlier x past in
          let below : moment earlier read < length earlier = moment-below earlier read in_read in absurd (omega arith))
          (cases_lt x.at (count_in earlier x.process));
    }

SeesNone-longer : (t : Trace) (p : ℕ) (earlier : List ℕ) (cell : ℕ) (read : Place) → IsIn earlier read → SeesNone t earlier cell read → SeesNone t (p ∷ earlier) cell read
SeesNone-longer t p earlier cell read in_read found =
    let at : moment (p ∷ earlier) read ≡ moment earlier read = moment-earlier p earlier read in_read in
    record {
      none = λ x inside writes. ⊎_elim
          (λ in'. let same : moment (p ∷ earlier) x ≡ moment earlier x = moment-earlier p earlier x in' in
          let known : moment earlier read ≤ moment earlier x = found.none x in' writes in omega arith)
          (λ past. let top : moment (p ∷ earlier) x ≡ length earlier = moment-newest p earlier x past in
          let below : moment earlier read < length earlier = moment-below earlier read in_read in omega arith)
          (cases_lt x.at (count_in earlier x.process));
    }

SeesNone-shorter : (t : Trace) (p : ℕ) (earlier : List ℕ) (cell : ℕ) (read : Place) → IsIn earlier read → SeesNone t (p ∷ earlier) cell read → SeesNone t earlier cell read
SeesNone-shorter t p earlier cell read in_read found =
    let at : moment (p ∷ earlier) read ≡ moment earlier read = moment-earlier p earlier read in_read in
    record {
      none = λ x inside writes.
          let same : moment (p ∷ earlier) x ≡ moment earlier x = moment-earlier p earlier x inside in
          let known : moment (p ∷ earlier) read ≤ moment (p ∷ earlier) x = found.none x (IsIn-earlier p earlier x inside) writes in omega arith;
    }

-- the newest place sees what was written last, or no write
newest_sees : (t : Trace) (p : ℕ) (earlier : List ℕ) (cell value : ℕ) → IsLegal t (p ∷ earlier) → read_at t (newest p earlier) cell ≡ Some value
    → SeesWrite t (p ∷ earlier) cell value (newest p earlier) ⊎ SeesNone t (p ∷ earlier) cell (newest p earlier)
newest_sees t p earlier cell value legal reads = go (last_written t earlier cell) refl (newest_finds t p earlier cell value legal reads) where
  top : moment (p ∷ earlier) (newest p earlier) ≡ length earlier
  top = moment-newest p earlier (newest p earlier) (omega arith)

  seen : LastWrite t earlier cell value → SeesWrite t (p ∷ earlier) cell value (newest p earlier)
  seen found =
      let wrote : moment (p ∷ earlier) found.write ≡ moment earlier found.write = moment-earlier p earlier found.write found.inside in
      let below : moment earlier found.write < length earlier = moment-below earlier found.write found.inside in
      let last_one : moment (p ∷ earlier) (newest p earlier) ≡ length earlier = top in
      record {
        write = found.write;
        inside = IsIn-earlier p earlier found.write found.inside;
        wrote = found.wrote;
        before = omega arith;
        last = λ x inside writes sooner. ⊎_elim
            (λ in'. let same : moment (p ∷ earlier) x ≡ moment earlier x = moment-earlier p earlier x in' in
            let known : moment earlier x ≤ moment earlier found.write = found.last x in' writes in omega arith)
            (λ past. let latest : moment (p ∷ earlier) x ≡ length earlier = moment-newest p earlier x past in absurd (omega arith))
            (cases_lt x.at (count_in earlier x.process));
      }

  unseen : last_written t earlier cell ≡ None → SeesNone t (p ∷ earlier) cell (newest p earlier)
  unseen none = record {
    none = λ x inside writes. ⊎_elim
        (λ in'. absurd (none_written t earlier cell none x in' writes))
        (λ past. let latest : moment (p ∷ earlier) x ≡ length earlier = moment-newest p earlier x past in let last_one : moment (p ∷ earlier) (newest p earlier) ≡ length earlier = top in omega arith)
        (cases_lt x.at (count_in earlier x.process));
  }

  go : (o : Option ℕ) → last_written t earlier cell ≡ o → option_or (option_or o (option_or (initial_of t cell) (first_read t earlier cell))) (Some value) ≡ Some value
      → SeesWrite t (p ∷ earlier) cell value (newest p earlier) ⊎ SeesNone t (p ∷ earlier) cell (newest p earlier)
  go (Some u) is found = inl (seen (last_write t earlier cell value (is ∙ found)))
  go None is found = inr (unseen is)

-- each read of a legal front sees a write of its value, or no write
pub sees : (t : Trace) (front : List ℕ) (cell value : ℕ) (read : Place) → IsLegal t front → IsIn front read → read_at t read cell ≡ Some value → SeesWrite t front cell value read ⊎ SeesNone t front cell read
sees t [] cell value read legal inside reads = let top : moment [] read < 0 = moment-below [] read inside in absurd (omega arith)
sees t (p ∷ earlier) cell value read legal inside reads = ⊎_elim (before (sees t earlier cell value read (IsLegal-earlier t p earlier legal))) here (cases_lt read.at (count_in earlier read.process)) where
  before : (IsIn earlier read → read_at t read cell ≡ Some value → SeesWrite t earlier cell value read ⊎ SeesNone t earlier cell read) → IsIn earlier read → SeesWrite t (p ∷ earlier) cell value read ⊎ SeesNone t (p ∷ earlier) cell read
  before known in' = ⊎_elim (λ found. inl (SeesWrite-longer t p earlier cell value read in' found)) (λ found. inr (SeesNone-longer t p earlier cell read in' found)) (known in' reads)

  here : count_in earlier read.process ≤ read.at → SeesWrite t (p ∷ earlier) cell value read ⊎ SeesNone t (p ∷ earlier) cell read
  here past =
      let at : read ≡ newest p earlier = is_newest p earlier read inside past in
      subst (λ x. SeesWrite t (p ∷ earlier) cell value x ⊎ SeesNone t (p ∷ earlier) cell x) (sym at)
      (newest_sees t p earlier cell value legal (sym (ap (λ x. read_at t x cell) at) ∙ reads))

-- ---- first contents

-- what one place more adds to what is read first
kept : (first fixed read : Option ℕ) (value : ℕ) → option_or first fixed ≡ Some value → option_or first (option_or fixed read) ≡ Some value
kept (Some x) fixed read value is = is
kept None (Some x) read value is = is
kept None None read value is = cc

fixed_here : (first fixed : Option ℕ) (value : ℕ) → option_or (option_or first fixed) (Some value) ≡ Some value → option_or first (option_or fixed (Some value)) ≡ Some value
fixed_here (Some x) fixed value is = is
fixed_here None (Some x) value is = is
fixed_here None None value is = refl

newest_fixes : (t : Trace) (p : ℕ) (earlier : List ℕ) (cell value : ℕ) → IsLegal t (p ∷ earlier) → read_at t (newest p earlier) cell ≡ Some value → SeesNone t (p ∷ earlier) cell (newest p earlier)
    → option_or (initial_of t cell) (first_read t (p ∷ earlier) cell) ≡ Some value
newest_fixes t p earlier cell value legal reads none =
    ap (option_or (initial_of t cell)) (first_read-step t p earlier cell ∙ ap (option_or (first_read t earlier cell)) reads)
    ∙ go (last_written t earlier cell) refl (newest_finds t p earlier cell value legal reads) where
      go : (o : Option ℕ) → last_written t earlier cell ≡ o → option_or (option_or o (option_or (initial_of t cell) (first_read t earlier cell))) (Some value) ≡ Some value
          → option_or (initial_of t cell) (option_or (first_read t earlier cell) (Some value)) ≡ Some value
      go None is found = fixed_here (initial_of t cell) (first_read t earlier cell) value found
      go (Some u) is found = absurd (overtaken (last_write t earlier cell u is)) where
        overtaken : LastWrite t earlier cell u → ⊥
        overtaken written =
            let top : moment (p ∷ earlier) (newest p earlier) ≡ length earlier = moment-newest p earlier (newest p earlier) (omega arith) in
            let same : moment (p ∷ earlier) written.write ≡ moment earlier written.write = moment-earlier p earlier written.write written.inside in
            let below : moment earlier written.write < length earlier = moment-below earlier written.write written.inside in
            let after : moment (p ∷ earlier) (newest p earlier) ≤ moment (p ∷ earlier) written.write = none.none written.write (IsIn-earlier p earlier written.write written.inside) (is_some_at (written_at t written.write cell) u written.wrote) in
            omega arith

-- a read that no write stands before reads what the cell holds at first, and what every such read reads
pub first_value : (t : Trace) (front : List ℕ) (cell value : ℕ) (read : Place) → IsLegal t front → IsIn front read → read_at t read cell ≡ Some value → SeesNone t front cell read
    → option_or (initial_of t cell) (first_read t front cell) ≡ Some value
first_value t [] cell value read legal inside reads none = let top : moment [] read < 0 = moment-below [] read inside in absurd (omega arith)
first_value t (p ∷ earlier) cell value read legal inside reads none = ⊎_elim (before (first_value t earlier cell value read (IsLegal-earlier t p earlier legal))) here (cases_lt read.at (count_in earlier read.process)) where
  before : (IsIn earlier read → read_at t read cell ≡ Some value → SeesNone t earlier cell read → option_or (initial_of t cell) (first_read t earlier cell) ≡ Some value) → IsIn earlier read
      → option_or (initial_of t cell) (first_read t (p ∷ earlier) cell) ≡ Some value
  before known in' =
      ap (option_or (initial_of t cell)) (first_read-step t p earlier cell)
      ∙ kept (initial_of t cell) (first_read t earlier cell) (option_and_then (λ op. read_of op cell) (following t earlier p)) value (known in' reads (SeesNone-shorter t p earlier cell read in' none))

  here : count_in earlier read.process ≤ read.at → option_or (initial_of t cell) (first_read t (p ∷ earlier) cell) ≡ Some value
  here past =
      let at : read ≡ newest p earlier = is_newest p earlier read inside past in
      newest_fixes t p earlier cell value legal (sym (ap (λ x. read_at t x cell) at) ∙ reads) (subst (SeesNone t (p ∷ earlier) cell) at none)
