-- Each rule holds: in a schedule in which the facts of the hints are so, so is a fact that follows from them.
use Rattle.std.proofs.Common.{ℕ, zero, suc, ◌≡◌, ◌≢◌, ◌+◌, ◌-◌, ◌<◌, ◌≤◌, ◌⊎◌, List, [], ◌∷◌, length, drop, All, Option, None, Some, IsSome, IsSomeAnd, option_and_then, slice_get, slice_index, refl, sym, ap, ap₂, ◌∙◌, subst, ⊎_elim, inl, inr, arith}
use Rattle.std.specs.Option.{option_or, option_map}
use Rattle.std.proofs.lemmas.Bool.{cases_lt}
use borrow.Author.Count.{below_more}
use Rattle.scm_sequences.specs.declared.op.Op.{Op}
use Rattle.scm_sequences.specs.Sequences.{read_of, written_to, operations, lengths_of}
use Rattle.scm_sequences.specs.laws.SequenceLaws.{operation_within, process_within, slice_index-lengths_of}
use Rattle.scm_sequences.specs.Traces.{Trace, initial_of, count_in, counts_of, first_read, IsSchedule}
use Rattle.scm_sequences.specs.laws.FrontLaws.{slice_index-counts_of}
use Rattle.scm_orders.specs.declared.place.Place.{Place}
use Rattle.scm_orders.specs.declared.cut_trace.Reading.{Reading}
use Rattle.scm_orders.specs.declared.derivation.Fact.{Fact}
use Rattle.scm_orders.specs.declared.derivation.Fact.TheVariants.{Before, Sees, SeesFirst, Hidden, Unseen, UnseenFirst}
use Rattle.scm_orders.specs.declared.derivation.Line.{Line}
use Rattle.scm_orders.specs.declared.derivation.Rule.{Rule}
use Rattle.scm_orders.specs.declared.derivation.Rule.TheVariants.{Joined, Hidden as HiddenBy, Source, AfterAll, BeforeAll, AfterSource, Assumed, Lemma}
use Rattle.scm_orders.specs.declared.candidates.Left.{Left}
use Rattle.scm_orders.specs.declared.candidates.Left.TheVariants.{Write, First, After, Before as Until}
use Rattle.scm_orders.specs.Facts.{IsUpTo, IsEarlier, operation_at, read_at, written_at, ReadsOther, WritesWhatIsRead, order_of, Shows, IsContradiction, fact_at, SomeHint, IsBefore, Leads, IsJoined}
use Rattle.scm_orders.specs.inner.Moments.{moment, IsLastBefore, HasNoneBefore, HasWriteBetween, ReadsCell, Says}
use Rattle.scm_orders.specs.Refuting.{Overwrites, Denies, RulesOut, DeniesFirst, RulesOutFirst, HasFirst, Has, HasBy, LeavesOnly, Leaves, IsHidden, IsBeforeAll, HasReader, IsOrdered, IsHiddenBy, IsDrawn, IsOf, Negates, Implies, IsMet, Assumes, LeavesOne, hints_near}
use Rattle.scm_orders.proofs.PlaceLaws.{none_is, is_some_at, some_first, one_cell, same_place, reads_or_not}
use Rattle.scm_orders.proofs.HintLaws.{any_taken, any_dropped}
use Rattle.scm_orders.proofs.MomentLaws.{place_of, IsIn, moment-injective, moment-rises}
use Rattle.scm_orders.proofs.SeeingLaws.{SeesWrite, SeesNone, sees, first_value}

-- a fact is one of operations of the trace, and what it says is so
pub record Holds (t : Trace) (s : List ℕ) (fact : Fact) : Type 0 where
  pub of : IsOf t fact
  pub says : Says t s fact

-- each is so, or the other thing
each_or : (P : ℕ → Type 0) (Q : Type 0) (n : ℕ) → ((k : ℕ) → k < n → P k ⊎ Q) → ((k : ℕ) → k < n → P k) ⊎ Q
each_or P Q zero each = inl (λ k below. absurd (omega arith))
each_or P Q (suc n) each = ⊎_elim (λ last. ⊎_elim (λ rest. inl (λ k below. below_more P n rest last k (omega (arith, below)))) inr (each_or P Q n (λ k below. each k (omega (arith, below))))) inr (each n (omega arith))

-- ---- in a schedule

module _ (t : Trace) (s : List ℕ) (schedule : IsSchedule t s) where
  -- it has every operation of the trace
  is_in : (x : Place) → IsSome (operation_at t x) → IsIn s x
  is_in x = go (operation_at t x) refl where
    go : (o : Option Op) → operation_at t x ≡ o → IsSome o → IsIn s x
    go None e some = absurd (none_is some)
    go (Some op) e some =
        let in_k : x.at < length (operations t.sequences x.process) = operation_within t.sequences x.process x.at op e in
        let count : slice_index (counts_of t s) x.process ≡ count_in s x.process = slice_index-counts_of t s x.process (process_within t.sequences x.process x.at op e) in
        let whole : slice_index (counts_of t s) x.process ≡ slice_index (lengths_of t.sequences) x.process = ap (λ ns. slice_index ns x.process) schedule.whole in
        let all : slice_index (lengths_of t.sequences) x.process ≡ length (operations t.sequences x.process) = slice_index-lengths_of t.sequences x.process in
        omega arith

  writes_in : (x : Place) (cell : ℕ) → IsSome (written_at t x cell) → IsIn s x
  writes_in x cell writes = is_in x (some_first (λ op. written_to op cell) (operation_at t x) writes)

  reads_in : (x : Place) (cell : ℕ) → IsSome (read_at t x cell) → IsIn s x
  reads_in x cell reads = is_in x (some_first (λ op. read_of op cell) (operation_at t x) reads)

  strictly : (x y : Place) → IsIn s x → IsIn s y → x ≢ y → moment s x ≤ moment s y → moment s x < moment s y
  strictly x y in_x in_y ne below = ⊎_elim (λ less. less) (λ above. absurd (ne (moment-injective s x y in_x in_y (omega arith)))) (cases_lt (moment s x) (moment s y))

  SeesNone-from_first : (cell : ℕ) (read : Place) → HasNoneBefore t s cell read → SeesNone t s cell read
  SeesNone-from_first cell read first = record { none = λ x _ writes. first.none x writes }

  -- a write of its value is what a read sees, or it sees first contents
  seen_or_first : (cell value : ℕ) (read : Place) → read_at t read cell ≡ Some value → ((w : Place) × (written_at t w cell ≡ Some value) × IsLastBefore t s cell w read) ⊎ HasNoneBefore t s cell read
  seen_or_first cell value read reads = ⊎_elim seen first (sees t s cell value read schedule.legal (reads_in read cell (is_some_at (read_at t read cell) value reads)) reads) where
    seen : SeesWrite t s cell value read → ((w : Place) × (written_at t w cell ≡ Some value) × IsLastBefore t s cell w read) ⊎ HasNoneBefore t s cell read
    seen found = inl (
      found.write,
      found.wrote,
      record {
        writes = is_some_at (written_at t found.write cell) value found.wrote;
        before = found.before;
        last = λ w writes sooner. found.last w (writes_in w cell writes) writes sooner;
      },
    )

    first : SeesNone t s cell read → ((w : Place) × (written_at t w cell ≡ Some value) × IsLastBefore t s cell w read) ⊎ HasNoneBefore t s cell read
    first found = inr (record { none = λ w writes. found.none w (writes_in w cell writes) writes })

  first_read_is : (cell value : ℕ) (read : Place) → read_at t read cell ≡ Some value → HasNoneBefore t s cell read → option_or (initial_of t cell) (first_read t s cell) ≡ Some value
  first_read_is cell value read reads first =
      first_value t s cell value read schedule.legal (reads_in read cell (is_some_at (read_at t read cell) value reads)) reads (SeesNone-from_first cell read first)

  -- what sees first contents reads one value
  same_first : (cell a b : ℕ) (x y : Place) → read_at t x cell ≡ Some a → read_at t y cell ≡ Some b → HasNoneBefore t s cell x → HasNoneBefore t s cell y → a ≡ b
  same_first cell a b x y reads_x reads_y first_x first_y =
      let same : Some a ≡ Some b = sym (first_read_is cell a x reads_x first_x) ∙ first_read_is cell b y reads_y first_y in
      let e : a ≡ b = cc in e

  -- and that is what is known of the cell
  is_first : (cell value first : ℕ) (read : Place) → read_at t read cell ≡ Some value → HasNoneBefore t s cell read → initial_of t cell ≡ Some first → first ≡ value
  is_first cell value first read reads sees_first is =
      let same : Some first ≡ Some value = sym (ap (λ o. option_or o (first_read t s cell)) is) ∙ first_read_is cell value read reads sees_first in
      let e : first ≡ value = cc in e

  other_first : (cell value : ℕ) (x y : Place) → ReadsOther t x cell value → read_at t y cell ≡ Some value → HasNoneBefore t s cell x → HasNoneBefore t s cell y → ⊥
  other_first cell value x y other reads first_x first_y = go (read_at t x cell) refl other where
    go : (o : Option ℕ) → read_at t x cell ≡ o → IsSomeAnd o (λ v. v ≢ value) → ⊥
    go None e differs = absurd differs
    go (Some v) e differs = differs (same_first cell v value x y e reads first_x first_y)

  reads_some : (cell value : ℕ) (x : Place) → ReadsOther t x cell value → IsSome (read_at t x cell)
  reads_some cell value x other = go (read_at t x cell) other where
    go : (o : Option ℕ) → IsSomeAnd o (λ v. v ≢ value) → IsSome o
    go None differs = absurd differs
    go (Some v) differs = refl

  -- ---- by the order of processes

  rises : (a b : Place) → IsIn s b → IsEarlier a b → moment s a < moment s b
  rises a b inside is = subst (λ p. moment s (place_of p a.at) < moment s b) (sym is.process) (moment-rises s b.process a.at b.at is.order inside)

  up_to : (a b : Place) → IsIn s b → IsUpTo a b → moment s a ≤ moment s b
  up_to a b inside is = ⊎_elim
      (λ less. let rise : moment s a < moment s b = rises a b inside (record { process = is.process; order = less }) in omega arith)
      (λ past. let at : a.at ≡ b.at = omega (arith, is.order, past) in let same : moment s a ≡ moment s b = ap (moment s) (ap₂ place_of is.process at) in omega arith)
      (cases_lt a.at b.at)

  -- ---- what one fact shows

  by_order : (fact : Fact) (P : Place × Place → Type 0) (Q : Type 0) → Holds t s fact → ((a b : Place) → IsIn s a → IsIn s b → moment s a < moment s b → P (a, b) → Q) → IsSomeAnd (order_of fact) P → Q
  by_order (Before a b) P Q holds use' is = use' a b (is_in a holds.of.one) (is_in b holds.of.other) holds.says is
  by_order (Sees w r) P Q holds use' is = use' w r (is_in w holds.of.one) (is_in r holds.of.other) holds.says.2.before is
  by_order (SeesFirst r) P Q holds use' is = absurd is
  by_order (Hidden w r) P Q holds use' is = use' w r (is_in w holds.of.one) (is_in r holds.of.other) (omega (arith, holds.says.2.after, holds.says.2.before)) is
  by_order (Unseen w r) P Q holds use' is = absurd is
  by_order (UnseenFirst r) P Q holds use' is = absurd is

  shows : (fact : Fact) (x y : Place) → IsIn s y → Holds t s fact → Shows fact x y → moment s x < moment s y
  shows fact x y in_y holds = by_order fact (λ order. IsUpTo x order.0 × IsUpTo order.1 y) (moment s x < moment s y) holds
      (λ a b in_a in_b less both. omega (arith, up_to x a in_a both.0, less, up_to b y in_y both.1))

  -- an operation reads one cell
  of_cell : (P : ℕ → Type 0) (read : Place) (cell : ℕ) → IsSome (read_at t read cell) → ReadsCell t read P → P cell
  of_cell P read cell reads is = subst P (one_cell t read is.0 cell is.1 reads) is.2

  writes_cell : (write read : Place) (cell : ℕ) → IsSome (read_at t read cell) → WritesWhatIsRead t write read → IsSome (written_at t write cell)
  writes_cell write read cell reads is = subst (λ c. IsSome (written_at t write c)) (one_cell t read is.cell cell is.reads reads) is.writes

  -- what a fact rules out isn't seen
  overwritten : (fact : Fact) (read : Reading) (w : Place) → IsIn s read.place → Holds t s fact → Overwrites t fact read w → IsLastBefore t s read.cell w read.place → ⊥
  overwritten fact read w in_read holds out seen = by_order fact (λ order. IsEarlier w order.0 × IsSome (written_at t order.0 read.cell) × IsUpTo order.1 read.place) ⊥ holds
      (λ a b in_a in_b less both.
      let sooner : moment s w < moment s a = rises w a in_a both.0 in
      let later : moment s b ≤ moment s read.place = up_to b read.place in_read both.2 in
      let last : moment s a ≤ moment s w = seen.last a both.1 (omega arith) in
      omega arith)
      out

  denied : (fact : Fact) (read : Reading) (w : Place) → IsSome (read_at t read.place read.cell) → Holds t s fact → Denies fact read.place w → IsLastBefore t s read.cell w read.place → ⊥
  denied (Before a b) read w reads holds out seen = absurd out
  denied (Sees w' r) read w reads holds out seen =
      let other : IsLastBefore t s read.cell w' read.place = of_cell (λ cell. IsLastBefore t s cell w' read.place) read.place read.cell reads
      (subst (λ r. ReadsCell t r (λ cell. IsLastBefore t s cell w' r)) out.0 holds.says) in
      let one : moment s w' ≤ moment s w = seen.last w' other.writes other.before in
      let two : moment s w ≤ moment s w' = other.last w seen.writes seen.before in
      out.1 (moment-injective s w' w (writes_in w' read.cell other.writes) (writes_in w read.cell seen.writes) (omega arith))
  denied (SeesFirst r) read w reads holds out seen =
      let none : HasNoneBefore t s read.cell read.place = of_cell (λ cell. HasNoneBefore t s cell read.place) read.place read.cell reads
      (subst (λ r. ReadsCell t r (λ cell. HasNoneBefore t s cell r)) out holds.says) in
      omega (arith, none.none w seen.writes, seen.before)
  denied (Hidden w' r) read w reads holds out seen =
      let between : HasWriteBetween t s read.cell w' read.place = of_cell (λ cell. HasWriteBetween t s cell w' read.place) read.place read.cell reads
      (subst (λ r. ReadsCell t r (λ cell. HasWriteBetween t s cell w' r)) out.0 holds.says) in
      let up : moment s w ≤ moment s w' = up_to w w' (is_in w' holds.of.one) out.1 in
      let last : moment s between.write ≤ moment s w = seen.last between.write between.writes between.before in
      omega (arith, up, last, between.after)
  denied (Unseen w' r) read w reads holds out seen =
      holds.says (subst (λ x. ReadsCell t x (λ cell. IsLastBefore t s cell w' x)) (sym out.0) (read.cell, reads, subst (λ x. IsLastBefore t s read.cell x read.place) (sym out.1) seen))
  denied (UnseenFirst r) read w reads holds out seen = absurd out

  ruled_out : (fact : Fact) (read : Reading) (w : Place) → IsSome (read_at t read.place read.cell) → Holds t s fact → RulesOut t fact read w → IsLastBefore t s read.cell w read.place → ⊥
  ruled_out fact read w reads holds out seen = ⊎_elim
      (λ shown. omega (arith, shows fact read.place w (writes_in w read.cell seen.writes) holds shown, seen.before))
      (⊎_elim (λ over. overwritten fact read w (reads_in read.place read.cell reads) holds over seen) (λ not'. denied fact read w reads holds not' seen))
      out

  denied_first : (fact : Fact) (read : Reading) → read_at t read.place read.cell ≡ Some read.value → Holds t s fact → DeniesFirst t fact read → HasNoneBefore t s read.cell read.place → ⊥
  denied_first (Before a b) read reads holds out none = absurd out
  denied_first (Sees w r) read reads holds out none = absurd out
  denied_first (SeesFirst r) read reads holds out none =
      other_first read.cell read.value r read.place out reads (of_cell (λ cell. HasNoneBefore t s cell r) r read.cell (reads_some read.cell read.value r out) holds.says) none
  denied_first (Hidden w r) read reads holds out none = absurd out
  denied_first (Unseen w r) read reads holds out none = absurd out
  denied_first (UnseenFirst r) read reads holds out none =
      holds.says (subst (λ x. ReadsCell t x (λ cell. HasNoneBefore t s cell x)) (sym out) (read.cell, is_some_at (read_at t read.place read.cell) read.value reads, none))

  first_ruled_out : (fact : Fact) (read : Reading) → read_at t read.place read.cell ≡ Some read.value → Holds t s fact → RulesOutFirst t fact read → HasNoneBefore t s read.cell read.place → ⊥
  first_ruled_out fact read reads holds out none = ⊎_elim
      (by_order fact (λ order. IsSome (written_at t order.0 read.cell) × IsUpTo order.1 read.place) ⊥ holds
      (λ a b in_a in_b less both. omega (arith, none.none a both.0, less, up_to b read.place (reads_in read.place read.cell (is_some_at (read_at t read.place read.cell) read.value reads)) both.1)))
      (λ denied'. denied_first fact read reads holds denied' none)
      out

  -- no operation stands before itself
  pub contradicts : (fact : Fact) → Holds t s fact → IsContradiction fact → ⊥
  contradicts fact holds = by_order fact (λ order. IsUpTo order.1 order.0) ⊥ holds (λ a b in_a in_b less back. omega (arith, less, up_to b a in_a back))

  -- ---- one fact or its contrary

  sees_or_not : (w r : Place) → Says t s (Sees w r) ⊎ Says t s (Unseen w r)
  sees_or_not w r = ⊎_elim reads (λ none. inr (λ seen. none seen.0 seen.1)) (reads_or_not t r) where
    by_source : (cell : ℕ) → IsSome (read_at t r cell) → ((w' : Place) → IsLastBefore t s cell w' r → Says t s (Sees w r) ⊎ Says t s (Unseen w r))
    by_source cell some w' last = ⊎_elim
        (λ same. inl (cell, some, subst (λ x. IsLastBefore t s cell x r) same last))
        (λ other. inr (λ seen.
        let last' : IsLastBefore t s cell w r = of_cell (λ c. IsLastBefore t s c w r) r cell some seen in
        let one : moment s w' ≤ moment s w = last'.last w' last.writes last.before in
        let two : moment s w ≤ moment s w' = last.last w last'.writes last'.before in
        other (moment-injective s w' w (writes_in w' cell last.writes) (writes_in w cell last'.writes) (omega arith))))
        (same_place w' w)

    reads : (cell : ℕ) × (value : ℕ) × (read_at t r cell ≡ Some value) → Says t s (Sees w r) ⊎ Says t s (Unseen w r)
    reads is =
        let some : IsSome (read_at t r is.0) = is_some_at (read_at t r is.0) is.1 is.2 in
        ⊎_elim (λ found. by_source is.0 some found.0 found.2)
        (λ none. inr (λ seen. let last : IsLastBefore t s is.0 w r = of_cell (λ c. IsLastBefore t s c w r) r is.0 some seen in omega (arith, none.none w last.writes, last.before)))
        (seen_or_first is.0 is.1 r is.2)

  first_or_not : (r : Place) → Says t s (SeesFirst r) ⊎ Says t s (UnseenFirst r)
  first_or_not r = ⊎_elim reads (λ none. inr (λ seen. none seen.0 seen.1)) (reads_or_not t r) where
    reads : (cell : ℕ) × (value : ℕ) × (read_at t r cell ≡ Some value) → Says t s (SeesFirst r) ⊎ Says t s (UnseenFirst r)
    reads is =
        let some : IsSome (read_at t r is.0) = is_some_at (read_at t r is.0) is.1 is.2 in
        ⊎_elim (λ found. inr (λ seen. let none : HasNoneBefore t s is.0 r = of_cell (λ c. HasNoneBefore t s c r) r is.0 some seen in
        let last : IsLastBefore t s is.0 found.0 r = found.2 in omega (arith, none.none found.0 last.writes, last.before)))
        (λ none. inl (is.0, some, none))
        (seen_or_first is.0 is.1 r is.2)

  -- a fact is so, or its contrary
  either : (one other : Fact) → IsOf t one → Negates one other → Says t s one ⊎ Says t s other
  either (Before a b) other of is = ⊎_elim inl
      (λ past. inr (subst (Says t s) (sym is.1) (strictly b a (is_in b of.other) (is_in a of.one) (λ same. is.0 (sym same)) past)))
      (cases_lt (moment s a) (moment s b))
  either (Sees w r) other of is = subst (λ f. Says t s (Sees w r) ⊎ Says t s f) (sym is) (sees_or_not w r)
  either (SeesFirst r) other of is = subst (λ f. Says t s (SeesFirst r) ⊎ Says t s f) (sym is) (first_or_not r)
  either (Hidden w r) other of is = absurd is
  either (Unseen w r) other of is = subst (λ f. Says t s (Unseen w r) ⊎ Says t s f) (sym is) (⊎_elim inr inl (sees_or_not w r))
  either (UnseenFirst r) other of is = subst (λ f. Says t s (UnseenFirst r) ⊎ Says t s f) (sym is) (⊎_elim inr inl (first_or_not r))

  -- ---- from hints

  -- what lines of these numbers say is so
  abbrev pub AreKnown : List Line → List ℕ → Type 0
  AreKnown earlier numbers = All (λ number. (line : Line) → slice_get earlier number ≡ Some line → Holds t s line.fact) numbers

  module _ (earlier : List Line) (hints : List ℕ) (known : AreKnown earlier hints) where
    by_hint : (P : Fact → Type 0) (Q : Type 0) → ((fact : Fact) → Holds t s fact → P fact → Q) → SomeHint earlier hints P → Q
    by_hint P Q use' some = go (slice_get earlier some.1) refl some.4 where
      holds : (line : Line) → slice_get earlier some.1 ≡ Some line → Holds t s line.fact
      holds = subst (λ number. (line : Line) → slice_get earlier number ≡ Some line → Holds t s line.fact) some.3 (known some.0 some.1 some.2)

      go : (o : Option Line) → slice_get earlier some.1 ≡ o → IsSomeAnd (option_map (λ line. line.fact) o) P → Q
      go None e is = absurd is
      go (Some line) e is = use' line.fact (holds line e) is

    before : (x y : Place) → IsIn s y → IsBefore earlier hints x y → moment s x < moment s y
    before x y in_y = ⊎_elim (rises x y in_y) (by_hint (λ fact. Shows fact x y) (moment s x < moment s y) (λ fact holds is. shows fact x y in_y holds is))

    led : (hint : ℕ) (rest : List ℕ) (x y : Place) → ((line : Line) → slice_get earlier hint ≡ Some line → Holds t s line.fact) → IsIn s y
        → ((z : Place) → Leads earlier rest z y → moment s z ≤ moment s y) → Leads earlier (hint ∷ rest) x y → moment s x < moment s y
    led hint rest x y holds in_y then' is = go (slice_get earlier hint) refl is where
      go : (o : Option Line) → slice_get earlier hint ≡ o → IsSomeAnd (option_and_then order_of (option_map (λ line. line.fact) o)) (λ order. IsUpTo x order.0 × Leads earlier rest order.1 y) → moment s x < moment s y
      go None e is = absurd is
      go (Some line) e is = by_order line.fact (λ order. IsUpTo x order.0 × Leads earlier rest order.1 y) (moment s x < moment s y) (holds line e)
          (λ a b in_a in_b less both. omega (arith, up_to x a in_a both.0, less, then' b both.1)) is

    leads : (rest : List ℕ) (x y : Place) → AreKnown earlier rest → IsIn s y → Leads earlier rest x y → moment s x ≤ moment s y
    leads [] x y holds in_y is = up_to x y in_y is
    leads (hint ∷ rest) x y holds in_y is =
        let less : moment s x < moment s y = led hint rest x y (holds 0 hint (omega arith)) in_y (λ z. leads rest z y (λ k d inside. holds (suc k) d (omega (arith, inside))) in_y) is in omega arith

    joined : (numbers : List ℕ) (x y : Place) → AreKnown earlier numbers → IsIn s y → IsJoined earlier numbers x y → moment s x < moment s y
    joined [] x y holds in_y is = rises x y in_y is
    joined (hint ∷ rest) x y holds in_y is = led hint rest x y (holds 0 hint (omega arith)) in_y (λ z. leads rest z y (λ k d inside. holds (suc k) d (omega (arith, inside))) in_y) is

    -- ---- what is left for a read to see

    abbrev IsLeft : Left → Place → Type 0
    IsLeft left w = Has left w ⊎ ((fact : Fact) × Holds t s fact × HasBy left fact w)

    write_left : (left : Left) (read : Reading) → IsSome (read_at t read.place read.cell) → LeavesOnly t earlier hints left read
        → (w : Place) → written_at t w read.cell ≡ Some read.value → IsLastBefore t s read.cell w read.place → IsLeft left w
    write_left left read reads only w wrote seen = ⊎_elim
        (λ behind. absurd (omega (arith, up_to read.place w (writes_in w read.cell seen.writes) behind, seen.before)))
        (⊎_elim inl (by_hint (λ fact. RulesOut t fact read w ⊎ HasBy left fact w) (IsLeft left w)
        (λ fact holds is. ⊎_elim (λ out. absurd (ruled_out fact read w reads holds out seen)) (λ by. inr (fact, holds, by)) is)))
        (only.writes w wrote)

    first_left : (left : Left) (read : Reading) → read_at t read.place read.cell ≡ Some read.value → LeavesOnly t earlier hints left read → HasNoneBefore t s read.cell read.place → HasFirst left
    first_left left read reads only none = ⊎_elim (λ has. has)
        (⊎_elim (λ other. absurd (differs (initial_of t read.cell) refl other))
        (by_hint (λ fact. RulesOutFirst t fact read) (HasFirst left) (λ fact holds out. absurd (first_ruled_out fact read reads holds out none))))
        only.first where
          differs : (o : Option ℕ) → initial_of t read.cell ≡ o → IsSomeAnd o (λ v. v ≢ read.value) → ⊥
          differs None e other = absurd other
          differs (Some v) e other = other (is_first read.cell read.value v read.place reads none e)

    -- where nothing but this is left, the read sees a write that is left, or first contents that are
    what_is_left : (place : Place) (left : Left) (Q : Place → Type 0)
        → ((read : Reading) (w : Place) → IsSome (read_at t read.place read.cell) → IsLeft left w → IsLastBefore t s read.cell w read.place → Q read.place)
        → ((read : Reading) → IsSome (read_at t read.place read.cell) → HasFirst left → HasNoneBefore t s read.cell read.place → Q read.place)
        → Leaves t earlier hints place left → Q place
    what_is_left place left Q write first is = subst Q is.1.at (⊎_elim
        (λ found. write is.0 found.0 reads (write_left left is.0 reads is.2 found.0 found.1 found.2) found.2)
        (λ none. first is.0 reads (first_left left is.0 is.1.reads is.2 none) none)
        (seen_or_first is.0.cell is.0.value is.0.place is.1.reads)) where
          reads : IsSome (read_at t is.0.place is.0.cell)
          reads = is_some_at (read_at t is.0.place is.0.cell) is.0.value is.1.reads

    -- ---- the rules

    source_rule : (w read : Place) → Leaves t earlier hints read (Write w) → Says t s (Sees w read)
    source_rule w read = what_is_left read (Write w) (λ r. ReadsCell t r (λ cell. IsLastBefore t s cell w r))
        (λ r k reads left seen. (r.cell, reads, subst (λ x. IsLastBefore t s r.cell x r.place) (⊎_elim (λ same. same) (λ by. absurd by.2) left) seen))
        (λ r reads has none. absurd has)

    first_rule : (read : Place) → Leaves t earlier hints read First → Says t s (SeesFirst read)
    first_rule read = what_is_left read First (λ r. ReadsCell t r (λ cell. HasNoneBefore t s cell r))
        (λ r k reads left seen. absurd (⊎_elim (λ has. has) (λ by. by.2) left))
        (λ r reads has none. (r.cell, reads, none))

    after_rule : (a read : Place) → Leaves t earlier hints read (After a) → moment s a < moment s read
    after_rule a read = what_is_left read (After a) (λ r. moment s a < moment s r)
        (λ r k reads left seen. let in_k : IsIn s k = writes_in k r.cell seen.writes in
        let later : moment s a ≤ moment s k = ⊎_elim (up_to a k in_k) (λ by. let less : moment s a < moment s k = shows by.0 a k in_k by.1 by.2 in omega arith) left in
        omega (arith, later, seen.before))
        (λ r reads has none. absurd has)

    before_rule : (read write : Place) → IsBeforeAll t earlier hints read write → moment s read < moment s write
    before_rule read write is = strictly read write (reads_in read is.writes.cell is.writes.reads) (writes_in write is.writes.cell is.writes.writes) is.other
        (what_is_left read (Until write) (λ r. WritesWhatIsRead t write r → moment s r ≤ moment s write)
        (λ r k reads left seen writes. ⊎_elim
        (λ sooner.
        let last : moment s write ≤ moment s k = seen.last write (writes_cell write r.place r.cell reads writes) sooner in
        let in_write : IsIn s write = writes_in write writes.cell writes.writes in
        let less : moment s k < moment s write = ⊎_elim (rises k write in_write) (λ by. shows by.0 k write in_write by.1 by.2) left in
        absurd (omega arith))
        (λ later. later)
        (cases_lt (moment s write) (moment s r.place)))
        (λ r reads has none writes. none.none write (writes_cell write r.place r.cell reads writes))
        is.left is.writes)

    has_reader : (write source : Place) (fact : Fact) → write ≢ source → Holds t s fact → HasReader t earlier hints write source fact → moment s write < moment s source
    has_reader write source (Before a b) other holds is = absurd is
    has_reader write source (Sees seen read) other holds is =
        let last : IsLastBefore t s is.1.writes.cell seen read = of_cell (λ cell. IsLastBefore t s cell seen read) read is.1.writes.cell is.1.writes.reads holds.says in
        let sooner : moment s write < moment s read = before write read (reads_in read is.1.writes.cell is.1.writes.reads) is.1.before in
        subst (λ x. moment s write < moment s x) is.0
        (strictly write seen (writes_in write is.1.writes.cell is.1.writes.writes) (writes_in seen is.1.writes.cell last.writes) (λ same. other (same ∙ is.0)) (last.last write is.1.writes.writes sooner))
    has_reader write source (SeesFirst read) other holds is = absurd is
    has_reader write source (Hidden hidden read) other holds is = absurd is
    has_reader write source (Unseen unseen read) other holds is = absurd is
    has_reader write source (UnseenFirst read) other holds is = absurd is

    hidden_rule : (write read by : Place) → IsHidden t earlier hints write read by → Says t s (Hidden write read)
    hidden_rule write read by is = (
      is.writes.cell,
      is.writes.reads,
      record {
        write = by;
        writes = is.writes.writes;
        after = before write by (writes_in by is.writes.cell is.writes.writes) is.after;
        before = before by read (reads_in read is.writes.cell is.writes.reads) is.before;
      },
    )

    ordered : (rule : Rule) (a b : Place) → IsSome (operation_at t b) → IsOrdered t earlier hints a b rule → moment s a < moment s b
    ordered Joined a b there is = joined hints a b known (is_in b there) is
    ordered (HiddenBy by) a b there is = absurd is
    ordered Source a b there is = absurd is
    ordered AfterAll a b there is = after_rule a b is
    ordered BeforeAll a b there is = before_rule a b is
    ordered Assumed a b there is = absurd is
    ordered (Lemma end) a b there is = absurd is
    ordered AfterSource a b there is = by_hint (HasReader t earlier hints a b) (moment s a < moment s b) (λ fact holds reader. has_reader a b fact is.other holds reader) is.reader

    hidden_by : (rule : Rule) (write read : Place) → IsHiddenBy t earlier hints write read rule → Says t s (Hidden write read)
    hidden_by Joined write read is = absurd is
    hidden_by (HiddenBy by) write read is = hidden_rule write read by is
    hidden_by Source write read is = absurd is
    hidden_by AfterAll write read is = absurd is
    hidden_by BeforeAll write read is = absurd is
    hidden_by AfterSource write read is = absurd is
    hidden_by Assumed write read is = absurd is
    hidden_by (Lemma end) write read is = absurd is

    pub drawn : (fact : Fact) (rule : Rule) → IsOf t fact → IsDrawn t earlier hints fact rule → Says t s fact
    drawn (Before a b) rule of is = ordered rule a b of.other is
    drawn (Sees w r) rule of is = source_rule w r is.1
    drawn (SeesFirst r) rule of is = first_rule r is.1
    drawn (Hidden w r) rule of is = hidden_by rule w r is
    drawn (Unseen w r) rule of is = absurd is
    drawn (UnseenFirst r) rule of is = absurd is

    -- ---- lemmas

    implied : (assumed : Fact) → IsOf t assumed → (one : Fact) → Holds t s one → Implies t one assumed → Says t s assumed
    implied (Before a b) of one holds is = shows one a b (is_in b of.other) holds is
    implied (Sees w r) of one holds is = subst (Says t s) is holds.says
    implied (SeesFirst r) of one holds is = subst (Says t s) is holds.says
    implied (Hidden w r) of one holds is = subst (Says t s) is holds.says
    implied (Unseen w r) of one holds is = λ seen. unseen is.0 is.1.reads is.2 (subst (λ x. ReadsCell t x (λ cell. IsLastBefore t s cell w x)) (sym is.1.at) seen) where
      unseen : (by : Reading) → read_at t by.place by.cell ≡ Some by.value → RulesOut t one by w → ReadsCell t by.place (λ cell. IsLastBefore t s cell w by.place) → ⊥
      unseen by reads out seen =
          let some : IsSome (read_at t by.place by.cell) = is_some_at (read_at t by.place by.cell) by.value reads in
          ruled_out one by w some holds out (of_cell (λ cell. IsLastBefore t s cell w by.place) by.place by.cell some seen)
    implied (UnseenFirst r) of one holds is = λ seen. unseen is.0 is.1.reads is.2 (subst (λ x. ReadsCell t x (λ cell. HasNoneBefore t s cell x)) (sym is.1.at) seen) where
      unseen : (by : Reading) → read_at t by.place by.cell ≡ Some by.value → RulesOutFirst t one by → ReadsCell t by.place (λ cell. HasNoneBefore t s cell by.place) → ⊥
      unseen by reads out seen =
          let some : IsSome (read_at t by.place by.cell) = is_some_at (read_at t by.place by.cell) by.value reads in
          first_ruled_out one by reads holds out (of_cell (λ cell. HasNoneBefore t s cell by.place) by.place by.cell some seen)

    -- an assumption that is met holds, or the fact does
    met : (fact assumed : Fact) (k : ℕ) → IsOf t assumed → IsMet t earlier (hints_near hints k) fact assumed → Says t s assumed ⊎ Says t s fact
    met fact assumed k of is = ⊎_elim (λ contrary. either assumed fact of contrary)
        (λ some. inl (by_hint (λ one. Implies t one assumed) (Says t s assumed) (λ one holds. implied assumed of one holds)
        (any_dropped (λ hint. IsSomeAnd (fact_at earlier hint) (λ one. Implies t one assumed)) (k - 1) hints
        (any_taken (λ hint. IsSomeAnd (fact_at earlier hint) (λ one. Implies t one assumed)) (k + 1 - (k - 1)) (drop (k - 1) hints) some))))
        is

    -- where not all assumptions hold, the fact does
    pub lemma_rule : (fact : Fact) (block : ℕ) (lines : List Line) → ((k : ℕ) (line : Line) → slice_get lines k ≡ Some line → IsOf t line.fact)
        → (((k : ℕ) → k < length hints + 1 → IsSomeAnd (slice_get lines k) (λ line. Assumes block line × Says t s line.fact)) → ⊥)
        → LeavesOne t earlier hints fact block lines → Says t s fact
    lemma_rule fact block lines of not_all is = ⊎_elim (λ all. absurd (not_all all)) (λ says. says) (each_or _ (Says t s fact) (length hints + 1) one) where
      one : (k : ℕ) → k < length hints + 1 → IsSomeAnd (slice_get lines k) (λ line. Assumes block line × Says t s line.fact) ⊎ Says t s fact
      one k inside = go (slice_get lines k) refl (is.each k inside) where
        go : (o : Option Line) → slice_get lines k ≡ o → IsSomeAnd o (λ line. Assumes block line × IsMet t earlier (hints_near hints k) fact line.fact)
            → IsSomeAnd o (λ line. Assumes block line × Says t s line.fact) ⊎ Says t s fact
        go None e both = absurd both
        go (Some line) e both = ⊎_elim (λ says. inl (both.0, says)) inr (met fact line.fact k (of k line e) both.1)
