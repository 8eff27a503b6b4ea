use Rattle.std.proofs.Common.{◌≡◌, map, ◌∙◌, rules}
use Rattle.std.specs.Arc.{arc_value}
use Rattle.scm_book.proofs.Entries.{names-machine_in}
use Rattle.scm_book.proofs.traces.Traces.names.Goals as goal

pub returns : goal.returns
returns c =
    let names : c.in_ok-names.names.items ≡ map (λ e. e.0) c.args.self.now = search rules in
    let copied : (arc_value c.in_ok-new.field-0).items ≡ c.in_ok-names.names.items = search rules in
    copied ∙ names ∙ names-machine_in c.args.self.now
