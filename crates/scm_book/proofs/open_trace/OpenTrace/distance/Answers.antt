use Rattle.std.proofs.Common.{◌≡◌, Ok}
use Rattle.scm_book.specs.Machine.{TraceState}
use Rattle.scm_book.specs.inner.Sets.{asked_lengths}
use Rattle.scm_book.proofs.AskedLengths.{asked, IsWithin-asked}
use Rattle.scm_book.proofs.open_trace.OpenTrace.distance.Goals as goal

pub distance-requires : goal.distance-requires
distance-requires c =
    let state : TraceState = record { owner = c.self.inside.owner; budget = c.self.inside.budget; cells = c.self.inside.cells; sequences = c.self.inside.sequences; claimants = c.self.inside.claimants.items; marks = c.self.inside.marks } in
    let is : asked_lengths state c.args.mark ≡ Ok c.in-Ok.lengths.now = asked state c.args.mark c.lengths-present.result (Ok c.in-Ok.lengths.now) c.lengths-present.ensures c.in-Ok.ensures in
    IsWithin-asked state c.args.mark c.in-Ok.lengths.now c.self.invariant.0 is
