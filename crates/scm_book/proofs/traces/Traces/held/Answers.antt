use Rattle.std.proofs.Common.{None, Some, sym, ap, ◌∙◌, rules}
use Rattle.std.specs.Option.{option_copied}
use Rattle.scm_book.specs.inner.Sets.{machine_in, sets_in}
use Rattle.scm_book.proofs.Entries.{trace_named-lookup, set_named-lookup}
use Rattle.scm_book.proofs.Leaving.{holds_none, holds_some}
use Rattle.scm_book.proofs.traces.Traces.held.Goals as goal

pub returns-in_err-get : goal.returns-in_err-get
returns-in_err-get c =
    holds_none (machine_in c.args.self.now) (sets_in c.args.self.now) c.args.name.now c.from_residual.result
    (trace_named-lookup c.args.self.now c.self.inside.traces.entries c.self.view_is c.args.name.now None (sym (ap option_copied c.in_err-get.was) ∙ c.get.ensures.value)) (search rules)

pub returns : goal.returns
returns c =
    let looked = sym (ap option_copied c.in_ok-get.was) ∙ c.get.ensures.value in
    holds_some (machine_in c.args.self.now) (sets_in c.args.self.now) c.args.name.now c.in_ok-get.field-0.now.state c.in_ok-get.field-0.now.set (Some c.held.result)
    (trace_named-lookup c.args.self.now c.self.inside.traces.entries c.self.view_is c.args.name.now (Some c.in_ok-get.field-0.now) looked)
    (set_named-lookup c.args.self.now c.self.inside.traces.entries c.self.view_is c.args.name.now (Some c.in_ok-get.field-0.now) looked) c.held.ensures.kept (ap Some c.held.ensures.held)
