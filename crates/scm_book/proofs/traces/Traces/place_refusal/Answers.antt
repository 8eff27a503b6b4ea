use Rattle.std.proofs.Common.{◌≡◌, ◌<◌, ◌≤◌, true, false, is_some, length, sym, ◌∙◌, arith}
use Rattle.scm_sequences.specs.declared.limits.TheConstants.{MOST_TRACES}
use Rattle.scm_book.specs.Machine.{trace_named}
use Rattle.scm_book.specs.inner.Sets.{machine_in}
use Rattle.scm_book.proofs.Answering.{place-taken, place-full, place-free}
use Rattle.scm_book.proofs.Entries.{has_trace, length-traces}
use Rattle.scm_book.proofs.traces.Traces.place_refusal.Goals as goal

pub returns-then-contains_key : goal.returns-then-contains_key
returns-then-contains_key c =
    let there : is_some (trace_named (machine_in c.args.self.now) c.args.name.now) ≡ true = has_trace c.args.self.now c.self.inside.traces.entries c.self.view_is c.args.name.now ∙ sym c.contains_key.ensures ∙ c.if-contains_key.true in
    sym (place-taken (machine_in c.args.self.now) c.args.name.now there)

pub returns-then-len-ge-MOST_TRACES : goal.returns-then-len-ge-MOST_TRACES
returns-then-len-ge-MOST_TRACES c =
    let absent : is_some (trace_named (machine_in c.args.self.now) c.args.name.now) ≡ false = has_trace c.args.self.now c.self.inside.traces.entries c.self.view_is c.args.name.now ∙ sym c.contains_key.ensures ∙ c.if-contains_key.false in
    let full : MOST_TRACES ≤ length (machine_in c.args.self.now).traces = omega (arith, length-traces c.args.self.now c.self.inside.traces.entries c.self.view_is c.args.name.now, c.len.ensures.len, c.if-len-ge-MOST_TRACES.true) in
    sym (place-full (machine_in c.args.self.now) c.args.name.now absent full)

pub returns : goal.returns
returns c =
    let absent : is_some (trace_named (machine_in c.args.self.now) c.args.name.now) ≡ false = has_trace c.args.self.now c.self.inside.traces.entries c.self.view_is c.args.name.now ∙ sym c.contains_key.ensures ∙ c.if-contains_key.false in
    let room : length (machine_in c.args.self.now).traces < MOST_TRACES = omega (arith, length-traces c.args.self.now c.self.inside.traces.entries c.self.view_is c.args.name.now, c.len.ensures.len, c.if-len-ge-MOST_TRACES.false) in
    sym (place-free (machine_in c.args.self.now) c.args.name.now absent room)
