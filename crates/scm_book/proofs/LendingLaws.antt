-- Questions that are lent by a trace and taken back.
use Rattle.std.proofs.Common.{ℕ, ◌≡◌, ◌+◌, ◌<◌, ◌^◌, Bool, true, false, not, nat_eq, List, [], ◌∷◌, ◌++◌, length, take, get_or, slice_get, Option, None, Some, IsSomeAnd, Ok, MatchOption, refl, sym, ap, ◌∙◌, subst, arith}
use Rattle.std.specs.Option.{option_eq}
use Rattle.std.proofs.lemmas.List.{get_or-map, take_more}
use Rattle.std.specs.Map.{set_value}
use Rattle.std.proofs.lemmas.Map.Steps.{set_value_same}
use Rattle.scm_sequences.specs.Traces.{trace_of}
use Rattle.scm_cells.specs.CellLists.{name_eq, Declared, initials_of}
use Rattle.scm_cells.specs.declared.width.Width.TheVariants.{W}
use Rattle.scm_cells.specs.laws.CellLaws.{length-initials_of}
use Rattle.scm_frontier.specs.laws.ComparisonLaws.{option_eq-Decides}
use Rattle.scm_reach.specs.Kept.{Kept, IsKept}
use Rattle.scm_reach.specs.laws.MemberLaws.{at_from_IsSomeAnd}
use Rattle.scm_book.specs.inner.Asking.{CanAsk}
use Rattle.scm_book.specs.inner.Loans.{Loaned, CanSearch, Lends, IsLentOf, TakesBack, IsTakenBack}
use Rattle.scm_book.specs.Machine.{Machine, TraceState, trace_named}
use Rattle.scm_book.specs.inner.Sets.{set_named, asked_lengths, most_steps, Becomes}
use Rattle.scm_book.specs.inner.Sound.{IsSoundTrace, IsKeptFor}
use Rattle.scm_book.proofs.AskedLengths.{can_ask}

-- what may be asked may be searched elsewhere
pub can_search : (state : TraceState) (mark : Option ℕ) (name lengths : List ℕ) (limit : ℕ) (set : Kept) → limit ≡ state.budget → asked_lengths state mark ≡ Ok lengths → IsSoundTrace state → IsKeptFor state set → most_steps state < 2 ^ 64
    → CanSearch (record { name = name; sequences = state.sequences; lengths = lengths; limit = limit; set = set })
can_search state mark name lengths limit set budget is sound for room =
    let can : CanAsk state.cells state.sequences lengths limit set 0 = can_ask state mark limit 0 lengths set budget is sound for (omega (arith, room)) in
    record {
      judge = record {
        cells = (let most = sound.cells.most in omega (arith, most, ap length for.initials, length-initials_of state.cells));
        within = can.within;
        names = can.names;
      };
      kept = can.kept;
      few = can.few;
      room = omega (arith, can.room);
    }

-- what one cell more holds at first is the same
pub take-initials : (cells : List Declared) (initials : List (Option ℕ)) (c : ℕ) (held : Option ℕ) → length cells ≡ length initials → c < length initials → take c initials ≡ take c (initials_of cells)
    → IsSomeAnd (slice_get cells c) (λ cell. held ≡ cell.initial) → false ≡ not (option_eq nat_eq held (get_or initials c None)) → take (c + 1) initials ≡ take (c + 1) (initials_of cells)
take-initials cells initials c held as_many within same holds is =
    take_more initials c None within ∙ (λ i. same i ++ next i ∷ []) ∙ sym (take_more (initials_of cells) c None (omega (arith, within, as_many, length-initials_of cells))) where
      any : Declared
      any = record { name = []; width = W; initial = None }

      here : (c < length cells) × (held ≡ (get_or cells c any).initial)
      here = at_from_IsSomeAnd (λ cell. held ≡ cell.initial) cells c any holds

      equal : (b : Bool) → option_eq nat_eq held (get_or initials c None) ≡ b → held ≡ get_or initials c None
      equal true same = (option_eq-Decides held (get_or initials c None)).0 same
      equal false other = let f : false ≡ true = is ∙ ap not other in cc

      next : get_or initials c None ≡ get_or (initials_of cells) c None
      next = sym (equal (option_eq nat_eq held (get_or initials c None)) refl) ∙ here.1 ∙ sym (get_or-map (λ cell. cell.initial) cells c any None here.0)

-- the start alone is kept for the trace
pub IsKeptFor-start : (state : TraceState) (start : Kept) → IsSoundTrace state → start.initials ≡ initials_of state.cells → length start.members ≡ 1 → IsKept (trace_of (initials_of state.cells) state.sequences) start.members → IsKeptFor state start
IsKeptFor-start state start sound initials one kept = record { initials = initials; kept = kept; few = omega (arith, one, sound.least) }

-- ---- of the traces

module _ (machine : Machine) (sets new : List (List ℕ × Kept)) (name : List ℕ) where
  pub lent_of : (mark : Option ℕ) (state : TraceState) (old kept : Kept) (lent : Option Loaned) → trace_named machine name ≡ Some state → set_named sets name ≡ Some old
      → MatchOption lent (kept ≡ old) (λ q. Lends name mark state old q kept) → new ≡ set_value (name_eq name) sets kept → MatchOption lent (new ≡ sets) (λ q. IsLentOf machine sets name mark q new)
  lent_of mark state old kept None there found same written = written ∙ ap (set_value (name_eq name) sets) same ∙ set_value_same (name_eq name) sets old found
  lent_of mark state old kept (Some q) there found lends written =
      record { state = state; there = there; lent = record { before = old; after = kept; found = found; leads = lends; written = written } }

  -- the same of what is lent for work
  pub lent_work_of : (state : TraceState) (old kept : Kept) (lent : Option Loaned) → trace_named machine name ≡ Some state → set_named sets name ≡ Some old
      → MatchOption lent (kept ≡ old) (λ q. Lends name None state old q kept) → new ≡ set_value (name_eq name) sets kept → MatchOption lent (new ≡ sets) (λ q. IsLentOf machine sets q.name None q new)
  lent_work_of state old kept None there found same written = lent_of None state old kept None there found same written
  lent_work_of state old kept (Some q) there found lends written = subst (λ n. IsLentOf machine sets n None q new) (sym lends.named) (lent_of None state old kept (Some q) there found lends written)

  pub taken_none : (q : Loaned) → name ≡ q.name → trace_named machine name ≡ None → new ≡ sets → IsTakenBack machine sets q new
  taken_none q is none same = subst (λ n. MatchOption (trace_named machine n) (new ≡ sets) (λ state. Becomes sets n (TakesBack state q) new)) is
      (subst (λ o. MatchOption o (new ≡ sets) (λ state. Becomes sets name (TakesBack state q) new)) (sym none) same)

  pub taken_some : (q : Loaned) → name ≡ q.name → (state : TraceState) (old kept : Kept) → trace_named machine name ≡ Some state → set_named sets name ≡ Some old → TakesBack state q old kept → new ≡ set_value (name_eq name) sets kept
      → IsTakenBack machine sets q new
  taken_some q is state old kept there found takes written = subst (λ n. MatchOption (trace_named machine n) (new ≡ sets) (λ s. Becomes sets n (TakesBack s q) new)) is
      (subst (λ o. MatchOption o (new ≡ sets) (λ s. Becomes sets name (TakesBack s q) new)) (sym there) (record { before = old; after = kept; found = found; leads = takes; written = written }))
