use Rattle.std.proofs.Common.{◌≡◌, ◌+◌, ◌<◌, ◌≤◌, List, length, map, slice_index, slice_set, ap, ap₂, ◌∙◌, subst, sym, arith}
use Rattle.std.proofs.lemmas.List.{length-map, length-append}
use Rattle.std.proofs.lemmas.List.Sums.{count_by-le-length}
use Rattle.scm_sequences.specs.declared.limits.TheConstants.{MOST_ENTRIES}
use Rattle.scm_book.specs.declared.entry.Entry.{Entry}
use Rattle.scm_book.specs.Machine.{ReplyData, EntryData, entry_data, call_data, reply_data}
use Rattle.scm_book.specs.Journal.{count_of, entered}
use Rattle.scm_book.specs.inner.JournalState.{JournalState}
use Rattle.scm_book.proofs.Counting.{CountsEach-one, AreNumbered-entered, counter_reads, entered-pushed}
use Rattle.scm_book.proofs.journal.Journal.enter.Goals as goal

pub overflow_add-number : goal.overflow_add-number
overflow_add-number c =
    let entries : List EntryData = map entry_data c.self.inside.entries.items in
    let within : c.args.session < length c.self.inside.counts.items = subst (λ n. c.args.session < n) (sym (ap (λ (s : JournalState). s.sessions) c.self.view_is)) c.requires.session in
    let number : c.index-number.result.now ≡ count_of c.args.session entries = counter_reads c.self.inside.counts.items entries c.from-place.result c.args.session c.index-number.result.now c.self.invariant.2 c.from-place.ensures within c.index-number.ensures in
    let few : count_of c.args.session entries ≤ length entries = count_by-le-length _ entries in
    let most : length c.self.inside.entries.items ≤ MOST_ENTRIES = c.self.invariant.1 in
    omega (arith, number, few, most, length-map c.self.inside.entries.items entry_data)

new_entry : goal.After-self-1 → Entry
new_entry c = record { session = c.args.session; number = c.index-number.result.now; call = c.args.call; reply = c.args.reply }

numbered : (c : goal.After-self-1) → c.index-number.result.now ≡ count_of c.args.session (map entry_data c.self.inside.entries.items)
numbered c =
    let within : c.args.session < length c.self.inside.counts.items = subst (λ n. c.args.session < n) (sym (ap (λ (s : JournalState). s.sessions) c.self.view_is)) c.requires.session in
    counter_reads c.self.inside.counts.items (map entry_data c.self.inside.entries.items) c.from-place.result c.args.session c.index-number.result.now c.self.invariant.2 c.from-place.ensures within c.index-number.ensures

pushed : (c : goal.After-self-1) → map entry_data c.push.new.self.items ≡ entered (map entry_data c.self.inside.entries.items) c.args.session (call_data c.args.call) (reply_data c.args.reply)
unfolding new_entry
pushed c = entered-pushed c.self.inside.entries.items c.push.new.self.items (new_entry c) (rw c.unwrap.ensures at c.push.ensures.items) (numbered c)

pub invariant_of-self : goal.invariant_of-self
invariant_of-self c =
    let items : List Entry = c.self.inside.entries.items in
    let entries : List EntryData = map entry_data items in
    let reply : ReplyData = reply_data c.args.reply in
    let within : c.args.session < length c.self.inside.counts.items = subst (λ n. c.args.session < n) (sym (ap (λ (s : JournalState). s.sessions) c.self.view_is)) c.requires.session in
    let room : length entries < MOST_ENTRIES = subst (λ n. n < MOST_ENTRIES) (sym (ap (λ (s : JournalState). length s.entries) c.self.view_is)) c.requires.most in
    let one_more : length (map entry_data c.push.new.self.items) ≡ length entries + 1 = ap length (pushed c) ∙ length-append entries _ in
    let counts : slice_set c.self.inside.counts.items c.from-place.result (c.index-number.result.now + 1) ≡ slice_set c.self.inside.counts.items c.args.session (slice_index c.self.inside.counts.items c.args.session + 1) =
    ap₂ (λ place number. slice_set c.self.inside.counts.items place (number + 1)) c.from-place.ensures (numbered c ∙ sym (c.self.invariant.2 c.args.session)) in (
      rw (pushed c) (AreNumbered-entered entries c.args.session (call_data c.args.call) reply c.self.invariant.0),
      omega (arith, room, one_more, length-map c.push.new.self.items entry_data),
      rw (pushed c, counts) (CountsEach-one c.self.inside.counts.items entries c.args.session (call_data c.args.call) reply within c.self.invariant.2),
    )

pub returns : goal.returns
returns c = pushed c ∙ ap (λ (s : JournalState). entered s.entries c.args.session (call_data c.args.call) (reply_data c.args.reply)) c.self.view_is
