-- Each step keeps the rule of the length word.
use Rattle.std.proofs.Common.{◌≡◌, ◌≢◌, ℕ, zero, suc, ◌+◌, List, [], ◌∷◌, ◌++◌, length, set, true, ◌==◌, refl, sym, ap, ◌∙◌, subst, ⊎_elim, arith, length-append}
use Rattle.std.specs.Prelude.{slice_index}
use Rattle.std.specs.List.{sum_by}
use Rattle.std.proofs.lemmas.Bool.{eq-eqb}
use Rattle.std.proofs.lemmas.List.Sums.{sum_by_push}
use mathlib.Core.Option.{none, some, some-injective, some-ne-none}
use mathlib.Core.Logic.{dite}
use native.Mathlib.Decide.{ℕ_discrete}
use prog.Atomic.{either}
use lib.ListN.{get_elem?}
use Rattle.atomic_table.proofs.Lists.{at_set, at_snoc}
use Rattle.atomic_table.specs.Table.{State, Me, step, Allows, Splits, Joins, keeps}
use Rattle.scm_book.specs.declared.entry.Entry.{Entry}
use Rattle.scm_book.specs.Machine.{EntryData, entry_data}
use Rattle.scm_book.specs.inner.Callers.{calls_by}
use Rattle.scm_book.specs.laws.CallerLaws.{calls_by-entry_other}
use Rattle.scm_shared.specs.Passes.{Known, newcomer}
use Rattle.scm_shared.specs.inner.Rule.{SeatView, keeper, holder, nobody, AllGiven, FitsView, holds, KeptAs, HasOneHistory}
use Rattle.scm_shared.specs.inner.Steps.{with_one_more, next_newcomer, both, staying, parted, called, with_entry, TellsCommit, all_caught_up, TellsHistory, all_at_front, TellsFront}
use Rattle.scm_shared.proofs.Sums.{sum_by-set, at_most_sum_by, two_at_most_sum_by, mark, mark-same, mark-other, times-append, times-one}
use Rattle.scm_shared.proofs.Fitting.{off, AllFitHistory-append, AllFitHistory-but_last, AllFitHistory-last_only, times-parted, newcomer_fits, AllFitHistory-caught_up, times-caught_up, AllFitHistory-at_front, times-at_front, called_fits, AllFitHistory-others, AllGiven-none_late}

-- the rule of the table
abbrev Holds : State Entry SeatView → Type 0
Holds s = HasOneHistory s.words s.views

-- one seat's view is changed
fits_set : (seat : ℕ) (log : List EntryData) (entered : ℕ) (views : List SeatView) (place : ℕ) (new : SeatView)
    → ((j : ℕ) (u : SeatView) → j ≢ place → get_elem? views j ≡ some u → FitsView seat log entered j u)
    → FitsView seat log entered place new
    → (j : ℕ) (u : SeatView) → get_elem? (set views place new) j ≡ some u → FitsView seat log entered j u
fits_set seat log entered views place new others mine j u at =
    ⊎_elim
    (λ (x : (j ≡ place) × (new ≡ u)). subst (λ (y : ℕ × SeatView). FitsView seat log entered y.0 y.1) (λ i. (sym x.0 i, x.1 i)) mine)
    (λ (x : (j ≢ place) × (get_elem? views j ≡ some u)). others j u x.0 x.1)
    (at_set views place j new u at)

-- at the book's seat the rule holds of this seat and of what it knows
anchored : (words : List ℕ) (views : List SeatView) (place : ℕ) (view : SeatView) → HasOneHistory words views → get_elem? views place ≡ some view → view.keeps ≡ true
    → KeptAs words views place view.log view.entered
anchored words views place view kept at is =
    let b = (kept.3.fits place view at).book is in
    subst (λ (x : ℕ × List EntryData × ℕ). KeptAs words views x.0 x.1 x.2) (λ i. (sym b.0 i, sym b.1 i, sym b.2 i)) kept.3

-- a view may become another one that fits and has the same numbers
changed : (words : List ℕ) (views : List SeatView) (seat : ℕ) (log : List EntryData) (entered : ℕ) (place : ℕ) (old new : SeatView)
    → KeptAs words views seat log entered → get_elem? views place ≡ some old → FitsView seat log entered place new
    → ((number : ℕ) → holds number new ≡ holds number old) → KeptAs words (set views place new) seat log entered
changed words views seat log entered place old new kept at fit same =
    let sum : (n : ℕ) → sum_by (holds n) (set views place new) ≡ sum_by (holds n) views =
    λ n. omega (arith, sum_by-set (holds n) views place old new at, same n) in
    record {
      word = kept.word;
      fits = fits_set seat log entered views place new (λ j u _ e. kept.fits j u e) fit;
      once = λ n. let o = kept.once n in omega (arith, o, sum n);
      free = λ n late. (sum n ∙ (kept.free n late).0, (kept.free n late).1);
    }

-- the numbers of a seat's passes were given
all_given : (words : List ℕ) (views : List SeatView) (seat : ℕ) (log : List EntryData) (entered : ℕ) (place : ℕ) (view : SeatView)
    → KeptAs words views seat log entered → get_elem? views place ≡ some view → AllGiven entered view.passes
all_given words views seat log entered place view k at =
    AllGiven-none_late entered view.passes
    (λ n late. let none = (k.free n late).0 in let few = at_most_sum_by (holds n) views place view at in omega (arith, none, few))

-- ---- the start

pub begins : HasOneHistory (0 ∷ []) (keeper [] 0 [] ∷ [])
begins = (0, [], 0, record { word = refl; fits = one; once = λ n. omega arith; free = λ n late. (refl, refl) })
  where
    one : (place : ℕ) (view : SeatView) → get_elem? (keeper [] 0 [] ∷ []) place ≡ some view → FitsView 0 [] 0 place view
    one zero view e = subst (FitsView 0 [] 0 0) (some-injective _ _ e) record { book = λ _. (refl, refl, refl); passes = tt }
    one (suc place) view e = absurd (some-ne-none view (sym e))

-- ---- enter

new_seat_fits : (seat : ℕ) (log : List EntryData) (entered place number : ℕ) → calls_by number log ≡ [] → FitsView seat log entered place (holder (newcomer number ∷ []))
new_seat_fits seat log entered place number unused = record { book = λ k. absurd (off k); passes = (newcomer_fits log number unused, tt) }

-- a number that is late enough for the next pass to come isn't the new one's
pub enters : (id : ℕ) (view : SeatView) → view.keeps ≡ true → Splits Holds id view (with_one_more view) (next_newcomer view)
enters id view is s kept at =
    let k = anchored s.words s.views id view kept at is in
    let left = with_one_more view in
    let right = next_newcomer view in
    let now = set s.views id left in
    let sum : (n : ℕ) → sum_by (holds n) (now ++ right ∷ []) ≡ sum_by (holds n) s.views + mark view.entered n =
    λ n. omega (arith, sum_by_push (holds n) now right, sum_by-set (holds n) s.views id view left at, times-one n (newcomer view.entered)) in (
      id,
      view.log,
      view.entered + 1,
      record {
        word = k.word;
        fits = λ j u e. ⊎_elim
            (λ was. fits_set id view.log (view.entered + 1) s.views id left
            (λ i v apart there. record { book = λ own. absurd (apart ((k.fits i v there).book own).0); passes = (k.fits i v there).passes })
            record { book = λ _. (refl, refl, refl); passes = (k.fits id view at).passes } j u was)
            (λ (same : right ≡ u). subst (FitsView id view.log (view.entered + 1) j) same
            (new_seat_fits id view.log (view.entered + 1) j view.entered (k.free view.entered (omega arith)).1))
            (at_snoc now right u j e);
        once = λ n. dite (ℕ_discrete view.entered n)
            (λ same. let absent = (k.free n (omega (arith, same))).0 in let one = mark-same view.entered n same in omega (arith, sum n, absent, one))
            (λ apart. let few = k.once n in let absent = mark-other view.entered n apart in omega (arith, sum n, few, absent));
        free = λ n late.
            let absent = mark-other view.entered n (λ same. absurd (omega (arith, same, late))) in
            let f = k.free n (omega (arith, late)) in
            let f0 = f.0 in
            (omega (arith, sum n, absent, f0), f.1);
      },
    )

-- ---- a seat is joined to another

pub takes : (id : ℕ) (view : SeatView) (other : ℕ) (theirs : SeatView) → Joins Holds id view other theirs (both view theirs) nobody
takes id view other theirs s kept at apart there =
    let k = kept.3 in
    let seat = kept.0 in let log = kept.1 in let entered = kept.2 in
    let joined = both view theirs in
    let now = set s.views id joined in
    let mine = k.fits id view at in
    let was = ⊎_elim (λ (t : (other ≡ id) × (joined ≡ theirs)). absurd (apart t.0)) (λ (t : (other ≢ id) × (get_elem? s.views other ≡ some theirs)). k.fits other theirs t.1) (at_set s.views id other joined theirs there) in
    let sum : (n : ℕ) → sum_by (holds n) (set now other nobody) ≡ sum_by (holds n) s.views =
    λ n. omega (arith, sum_by-set (holds n) now other theirs nobody there, sum_by-set (holds n) s.views id view joined at, times-append n view.passes theirs.passes) in (
      seat,
      log,
      entered,
      record {
        word = k.word;
        fits = fits_set seat log entered now other nobody
            (λ j u _ e. fits_set seat log entered s.views id joined (λ i v _ e'. k.fits i v e')
            record { book = mine.book; passes = AllFitHistory-append log view.passes theirs.passes mine.passes was.passes } j u e)
            record { book = λ own. absurd (off own); passes = tt };
        once = λ n. let few = k.once n in omega (arith, few, sum n);
        free = λ n late. (sum n ∙ (k.free n late).0, (k.free n late).1);
      },
    )

-- ---- and its last pass is parted from it

pub parts : (id : ℕ) (view : SeatView) → Splits Holds id view (staying view) (parted view)
parts id view s kept at =
    let k = kept.3 in
    let seat = kept.0 in let log = kept.1 in let entered = kept.2 in
    let left = staying view in
    let right = parted view in
    let now = set s.views id left in
    let mine = k.fits id view at in
    let sum : (n : ℕ) → sum_by (holds n) (now ++ right ∷ []) ≡ sum_by (holds n) s.views =
    λ n. omega (arith, sum_by_push (holds n) now right, sum_by-set (holds n) s.views id view left at, times-parted n view.passes) in (
      seat,
      log,
      entered,
      record {
        word = k.word;
        fits = λ j u e. ⊎_elim
            (λ was. fits_set seat log entered s.views id left (λ i v _ e'. k.fits i v e')
            record { book = mine.book; passes = AllFitHistory-but_last log view.passes mine.passes } j u was)
            (λ (same : right ≡ u). subst (FitsView seat log entered j) same
            record { book = λ own. absurd (off own); passes = AllFitHistory-last_only log view.passes mine.passes })
            (at_snoc now right u j e);
        once = λ n. let few = k.once n in omega (arith, few, sum n);
        free = λ n late. (sum n ∙ (k.free n late).0, (k.free n late).1);
      },
    )

-- ---- the word is looked at

-- a word that is stored as it was
same_word : (words : List ℕ) (n : ℕ) → words ≡ n ∷ [] → (slice_index words 0 ≡ n) × (set words 0 (slice_index words 0) ≡ words)
same_word words n is = subst (λ (ws : List ℕ). (slice_index ws 0 ≡ n) × (set ws 0 (slice_index ws 0) ≡ ws)) (sym is) (refl, refl)

pub learns : (slots id : ℕ) (view : SeatView) → view.keeps ≡ true
    → Allows Holds slots id (view, []) 0 (λ n. n) (TellsHistory (step slots 0 0 0 none) (view, []))
learns slots id view is s kept size at small =
    let k = anchored s.words s.views id view kept at is in
    let new = keeper view.log view.entered (all_caught_up view.log view.passes) in
    let fit = (k.fits id view at).passes in
    let word = same_word s.words (length view.log) k.word in (
      new,
      keeps,
      tt,
      (
        id,
        view.log,
        view.entered,
        subst (λ (ws : List ℕ). KeptAs ws (set s.views id new) id view.log view.entered) (sym word.1)
            (changed s.words s.views id view.log view.entered id view new k at record { book = λ _. (refl, refl, refl); passes = AllFitHistory-caught_up view.log view.passes fit } (λ n. times-caught_up n view.log view.passes)),
      ),
      (refl, fit, all_given s.words s.views id view.log view.entered id view k at, λ n. let few = k.once n in let mine = at_most_sum_by (holds n) s.views id view at in omega (arith, few, mine)),
    )

pub fronts : (slots id : ℕ) (view : SeatView)
    → Allows Holds slots id (view, []) 0 (λ n. n) (TellsFront (step slots 0 0 0 none) (view, []))
fronts slots id view s kept size at small =
    let k = kept.3 in
    let log = kept.1 in
    let found = slice_index s.words 0 in
    let new = record view { passes = all_at_front found view.passes } in
    let mine = k.fits id view at in
    let word = same_word s.words (length log) k.word in (
      new,
      keeps,
      tt,
      (
        kept.0,
        log,
        kept.2,
        subst (λ (ws : List ℕ). KeptAs ws (set s.views id new) kept.0 log kept.2) (sym word.1)
            (changed s.words s.views kept.0 log kept.2 id view new k at record { book = mine.book; passes = AllFitHistory-at_front log found view.passes (sym word.0) mine.passes } (λ n. times-at_front n found view.passes)),
      ),
      (refl, (log, sym word.0, mine.passes)),
    )

-- ---- an entry is added

-- the word becomes one more
next_word : (words : List ℕ) (count : ℕ) → words ≡ count ∷ [] → set words 0 (either (slice_index words 0 == count) (count + 1) (slice_index words 0)) ≡ (count + 1) ∷ []
next_word words count is =
    subst (λ (ws : List ℕ). set ws 0 (either (slice_index ws 0 == count) (count + 1) (slice_index ws 0)) ≡ (count + 1) ∷ []) (sym is)
    (ap (λ b. either b (count + 1) count ∷ []) (eq-eqb count count refl))

commits_kept : (words : List ℕ) (views : List SeatView) (id : ℕ) (log : List EntryData) (entered : ℕ) (pass : Known) (entry : EntryData)
    → entry.session ≡ pass.number → get_elem? views id ≡ some (keeper log entered (pass ∷ [])) → KeptAs words views id log entered
    → KeptAs ((length log + 1) ∷ []) (set views id (keeper (log ++ entry ∷ []) entered (called entry (log ++ entry ∷ []) pass ∷ []))) id (log ++ entry ∷ []) entered
commits_kept words views id log entered pass entry own at k =
    let old = keeper log entered (pass ∷ []) in
    let longer = log ++ entry ∷ [] in
    let new = keeper longer entered (called entry longer pass ∷ []) in
    let sum : (n : ℕ) → sum_by (holds n) (set views id new) ≡ sum_by (holds n) views =
    λ n. omega (arith, sum_by-set (holds n) views id old new at, times-one n pass, times-one n (called entry longer pass)) in
    let here : holds entry.session old ≡ 1 = times-one entry.session pass ∙ mark-same pass.number entry.session (sym own) in
    record {
      word = ap (λ (n : ℕ). n ∷ []) (sym (length-append log (entry ∷ [])));
      fits = fits_set id longer entered views id new
          (λ j u apart there.
          let fit = k.fits j u there in
          let few = k.once entry.session in
          let two = two_at_most_sum_by (holds entry.session) views id j old u apart at there in
          record {
            book = λ is. absurd (apart (fit.book is).0);
            passes = AllFitHistory-others log entry u.passes (omega (arith, few, two, here)) fit.passes;
          })
          record { book = λ _. (refl, refl, refl); passes = (called_fits log entry pass own (k.fits id old at).passes.0, tt) };
      once = λ n. let few = k.once n in omega (arith, few, sum n);
      free = λ n late.
          let f = k.free n late in
          let absent = f.0 in
          let apart : entry.session ≢ n = λ same.
          let one : holds n old ≡ 1 = subst (λ (m : ℕ). holds m old ≡ 1) same here in
          let some_there = at_most_sum_by (holds n) views id old at in
          absurd (omega (arith, one, some_there, absent)) in
          (sum n ∙ absent, calls_by-entry_other n log entry apart ∙ f.1);
    }

pub commits : (slots id : ℕ) (log : List EntryData) (entered : ℕ) (pass : Known) (entry : Entry) → entry.session ≡ pass.number
    → Allows Holds slots id (keeper log entered (pass ∷ []), []) 0 (λ n. either (n == length log) (length log + 1) n)
    (TellsCommit (step slots 0 (length log) (length log + 1) (some entry)) (keeper log entered (pass ∷ []), []))
commits slots id log entered pass entry own s kept size at small =
    let old = keeper log entered (pass ∷ []) in
    let k = anchored s.words s.views id old kept at refl in
    let new = with_entry (some entry) old in (
      new,
      keeps,
      tt,
      (
        id,
        log ++ entry_data entry ∷ [],
        entered,
        subst (λ (ws : List ℕ). KeptAs ws (set s.views id new) id (log ++ entry_data entry ∷ []) entered) (sym (next_word s.words (length log) k.word))
            (commits_kept s.words s.views id log entered pass (entry_data entry) own at k),
      ),
      (refl, (k.fits id old at).passes),
    )

-- ---- the steps at a seat that is in hand

pub learns_as : (slots id : ℕ) (me : Me Entry SeatView) → me.1 ≡ [] → me.0.keeps ≡ true
    → Allows Holds slots id me 0 (λ n. n) (TellsHistory (step slots 0 0 0 none) me)
learns_as slots id me empty is =
    subst (λ (held : List (ℕ × Entry)). Allows Holds slots id (me.0, held) 0 (λ n. n) (TellsHistory (step slots 0 0 0 none) (me.0, held))) (sym empty) (learns slots id me.0 is)

pub fronts_as : (slots id : ℕ) (me : Me Entry SeatView) → me.1 ≡ []
    → Allows Holds slots id me 0 (λ n. n) (TellsFront (step slots 0 0 0 none) me)
fronts_as slots id me empty =
    subst (λ (held : List (ℕ × Entry)). Allows Holds slots id (me.0, held) 0 (λ n. n) (TellsFront (step slots 0 0 0 none) (me.0, held))) (sym empty) (fronts slots id me.0)

pub commits_as : (slots id : ℕ) (me : Me Entry SeatView) (log : List EntryData) (entered : ℕ) (pass : Known) (entry : Entry) (old new : ℕ)
    → me ≡ (keeper log entered (pass ∷ []), []) → entry.session ≡ pass.number → old ≡ length log → new ≡ length log + 1
    → Allows Holds slots id me 0 (λ n. either (n == old) new n) (TellsCommit (step slots 0 old new (some entry)) me)
commits_as slots id me log entered pass entry old new is own was now =
    subst (λ (x : Me Entry SeatView × ℕ × ℕ). Allows Holds slots id x.0 0 (λ n. either (n == x.1) x.2 n) (TellsCommit (step slots 0 x.1 x.2 (some entry)) x.0))
    (λ i. (sym is i, sym was i, sym now i)) (commits slots id log entered pass entry own)
