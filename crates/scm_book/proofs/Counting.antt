-- The counters of a journal, and the numbers of its entries.
use Rattle.std.proofs.Common.{ℕ, zero, suc, ◌≡◌, ◌+◌, ◌<◌, Bool, true, false, cond, List, [], ◌∷◌, ◌++◌, length, replicate, slice_index, slice_set, ◌==◌, refl, sym, ap, ◌∙◌, subst, append_assoc, append-nil, arith, map, get_or}
use Rattle.std.specs.List.{sum_by}
use Rattle.std.proofs.lemmas.Bool.{eqb-true, eqb-false}
use Rattle.std.proofs.lemmas.List.{get_or-set_same, get_or-set_other, get_or_default, map-append}
use Rattle.std.proofs.lemmas.List.Sums.{sum_by-append}
use Rattle.scm_book.specs.declared.entry.Entry.{Entry}
use Rattle.scm_book.specs.Machine.{CallData, ReplyData, EntryData, call_data, reply_data, entry_data}
use Rattle.scm_book.specs.Journal.{count_of, entered, AreNumbered}
use Rattle.scm_book.specs.inner.JournalState.{CountsEach}

widened : (counts : List ℕ) (n session : ℕ) → slice_index (counts ++ replicate n 0) session ≡ slice_index counts session
widened [] zero session = refl
widened [] (suc n) zero = refl
widened [] (suc n) (suc session) = widened [] n session
widened (count ∷ counts) n zero = refl
widened (count ∷ counts) n (suc session) = widened counts n session

-- further counters count nothing
pub CountsEach-widened : (counts : List ℕ) (n : ℕ) (entries : List EntryData) → CountsEach counts entries → CountsEach (counts ++ replicate n 0) entries
CountsEach-widened counts n entries each session = widened counts n session ∙ each session

-- one more entry counts for its session alone
pub count_of-one : (session other number : ℕ) (call : CallData) (reply : ReplyData) (entries : List EntryData)
    → count_of other (entries ++ record { session = session; number = number; call = call; reply = reply } ∷ [])
    ≡ count_of other entries + cond (session == other) 1 0
count_of-one session other number call reply entries =
    let one : 0 + cond (session == other) 1 0 ≡ cond (session == other) 1 0 = omega arith in
    sum_by-append (λ (e : EntryData). cond (e.session == other) 1 0) entries (record { session = session; number = number; call = call; reply = reply } ∷ [])
    ∙ ap (λ n. sum_by (λ (e : EntryData). cond (e.session == other) 1 0) entries + n) one

-- the counter of its session was raised
pub CountsEach-one : (counts : List ℕ) (entries : List EntryData) (session : ℕ) (call : CallData) (reply : ReplyData) → session < length counts → CountsEach counts entries
    → CountsEach (slice_set counts session (slice_index counts session + 1)) (entered entries session call reply)
CountsEach-one counts entries session call reply within each other = by (session == other) refl where
  here : slice_index counts other ≡ count_of other entries
  here = each other

  by : (same : Bool) → (session == other) ≡ same → slice_index (slice_set counts session (slice_index counts session + 1)) other ≡ count_of other (entered entries session call reply)
  by true same =
      let is : session ≡ other = eqb-true session other same in
      let set : slice_index (slice_set counts session (slice_index counts session + 1)) other ≡ slice_index counts session + 1 =
      subst (λ k. slice_index (slice_set counts session (slice_index counts session + 1)) k ≡ slice_index counts session + 1) is (get_or-set_same counts session (slice_index counts session + 1) 0 within) in
      let one : count_of other (entered entries session call reply) ≡ count_of other entries + 1 = count_of-one session other _ call reply entries ∙ ap (λ b. count_of other entries + cond b 1 0) same in
      set ∙ ap (λ k. slice_index counts k + 1) is ∙ ap (λ n. n + 1) here ∙ sym one
  by false same =
      let set : slice_index (slice_set counts session (slice_index counts session + 1)) other ≡ slice_index counts other = get_or-set_other counts session other (slice_index counts session + 1) 0 (λ e. eqb-false session other same (sym e)) in
      let more : count_of other (entered entries session call reply) ≡ count_of other entries + 0 = count_of-one session other _ call reply entries ∙ ap (λ b. count_of other entries + cond b 1 0) same in
      set ∙ here ∙ omega (arith, more)

-- the new entry is numbered
AreNumbered-one : (earlier entries : List EntryData) (new : EntryData) → AreNumbered earlier entries → new.number ≡ count_of new.session (earlier ++ entries) → AreNumbered earlier (entries ++ new ∷ [])
AreNumbered-one earlier [] new numbered is = (is ∙ ap (count_of new.session) (append-nil earlier), tt)
AreNumbered-one earlier (entry ∷ later) new numbered is =
    (numbered.0, AreNumbered-one (earlier ++ entry ∷ []) later new numbered.1 (is ∙ ap (count_of new.session) (sym (append_assoc earlier (entry ∷ []) later))))

pub AreNumbered-entered : (entries : List EntryData) (session : ℕ) (call : CallData) (reply : ReplyData) → AreNumbered [] entries → AreNumbered [] (entered entries session call reply)
AreNumbered-entered entries session call reply numbered = AreNumbered-one [] entries _ numbered refl

-- what the counter of a session reads
pub counter_reads : (counts : List ℕ) (entries : List EntryData) (place session number : ℕ) → CountsEach counts entries → place ≡ session → session < length counts
    → number ≡ get_or counts place number → number ≡ count_of session entries
counter_reads counts entries place session number each same within reads =
    reads ∙ ap (λ k. get_or counts k number) same ∙ get_or_default counts session number 0 within ∙ each session

-- the entries with a new one last
pub entered-pushed : (items new : List Entry) (entry : Entry) → new ≡ items ++ entry ∷ [] → entry.number ≡ count_of entry.session (map entry_data items)
    → map entry_data new ≡ entered (map entry_data items) entry.session (call_data entry.call) (reply_data entry.reply)
entered-pushed items new entry pushed numbered =
    ap (map entry_data) pushed ∙ map-append entry_data items (entry ∷ [])
    ∙ ap (λ n. map entry_data items ++ record { session = entry.session; number = n; call = call_data entry.call; reply = reply_data entry.reply } ∷ []) numbered
