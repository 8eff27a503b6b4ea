use Rattle.std.proofs.Common.{◌≡◌, length, sym, ap, ◌∙◌}
use Rattle.std.proofs.lemmas.List.{length-map}
use Rattle.scm_book.specs.Machine.{entry_data}
use Rattle.scm_sessions.proofs.Sent.{Sends-trans}
use Rattle.scm_sessions.proofs.port.Port.put_journal.Goals as goal

pub returns-clause-bytes : goal.returns-clause-bytes
returns-clause-bytes g c =
    let same = c.entries-entries.ensures.entries in
    let count : length c.entries-entries.result.now ≡ length c.args.book.now.journal =
    sym (length-map c.entries-entries.result.now entry_data) ∙ ap length same in
    Sends-trans (rw count at c.put_head.ensures.bytes) (rw same at c.put_entries.ensures.bytes)
