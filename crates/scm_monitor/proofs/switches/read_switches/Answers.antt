use Rattle.std.proofs.Common.{rules, ◌∙◌}
use Rattle.scm_monitor.proofs.Reading.{one_on, two_on}
use Rattle.scm_monitor.proofs.switches.read_switches.Goals as goal

-- src/switches.rt
pub each-preserved-then-is_word : goal.each-preserved-then-is_word
each-preserved-then-is_word c = record {
  read = two_on c.each.asked c.in_ok-asked-in-len2-up.asked c.in_ok-read_workers-in-len2-up.field-0 c.each.rest.now c.in-len2-up.len_at_least (search rules) (search rules) (search rules) ∙ c.each.invariant.read;
  few = search rules;
}

-- src/switches.rt
pub each-preserved : goal.each-preserved
each-preserved c = record {
  read = one_on c.each.asked c.in_ok-asked-in-len1-up.asked c.each.rest.now c.in-len2-up.len_at_least (search rules) (search rules) ∙ c.each.invariant.read;
  few = search rules;
}
