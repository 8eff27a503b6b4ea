use Rattle.std.proofs.Common.{◌≡◌, ◌<◌, [], length, rules, get_or, ◌∙◌, ap}
use Rattle.std.proofs.lemmas.List.{get_or_default}
use Rattle.scm_book.specs.Machine.{entry_data}
use Rattle.scm_sessions.proofs.Sent.{Sends-trans, Sends-same}
use Rattle.scm_sessions.proofs.Numbering.{entry_lines-take_more, session_named}
use Rattle.scm_sessions.proofs.port.Port.put_entries.Goals as goal

pub bounds-names-from : goal.bounds-names-from
bounds-names-from g c =
    rw c.from.ensures
    (session_named entry_data c.args.names.now c.args.entries.now c.loop-place.place c.index-entries-place.result c.requires.named
    c.loop-place-test.true c.index-entries-place.is)

pub loop-place-preserved : goal.loop-place-preserved
loop-place-preserved g c = record {
  sent =
      let entry = c.index-entries-place.result in
      let within : entry.session < length c.args.names.now =
      session_named entry_data c.args.names.now c.args.entries.now c.loop-place.place entry c.requires.named c.loop-place-test.true
      c.index-entries-place.is in
      let name : c.index-names-from.result ≡ get_or c.args.names.now entry.session [] =
      c.index-names-from.is ∙ ap (λ i. get_or c.args.names.now i c.index-names-from.result) c.from.ensures
      ∙ get_or_default c.args.names.now entry.session c.index-names-from.result [] within in
      Sends-same (Sends-trans c.loop-place.invariant.sent (rw name at c.put_entry.ensures.bytes))
      (entry_lines-take_more entry_data c.args.names.now c.args.entries.now c.loop-place.place entry c.loop-place-test.true
      c.index-entries-place.is);
  reads = search rules;
}
