use Rattle.std.proofs.Common.{rules}
use Rattle.scm_sessions.proofs.Grouping.{HasGrouped-start, HasGrouped-more, GroupsWhole-end, GroupsWhole-last, GroupsWholeLines-part}
use Rattle.scm_sessions.proofs.groups.Groups.read.Goals as goal

pub each-init : goal.each-init
each-init g c = record {
  grouped = HasGrouped-start _ _ _ _ c.requires.fresh c.requires.new c.requires.uncounted;
  reads = search rules;
}

pub returns-in_err-next_line-clause-read_failed : goal.returns-in_err-next_line-clause-read_failed
returns-in_err-next_line-clause-read_failed g c = λ _. GroupsWholeLines-part c.each.invariant.grouped _ c.in_err-next_line.ensures.read

pub each-preserved : goal.each-preserved
each-preserved g c = record {
  grouped =
      let takes = rw c.in-Whole.is at c.in_ok-next_line.ensures.ok in
      let put = rw c.line.ensures at c.in_ok-push_next-in-Whole.ensures.groups in
      HasGrouped-more c.each.invariant.grouped _ _ _ _ takes c.in_ok-push_next-in-Whole.ensures.counted put;
  reads = search rules;
}

pub returns-in-Last-clause-ok : goal.returns-in-Last-clause-ok
returns-in-Last-clause-ok g c =
    let takes = rw c.in-Last.is at c.in_ok-next_line.ensures.ok in
    let put = rw c.line-in-Last.ensures at c.in_ok-push_next-in-Last.ensures.groups in
    GroupsWhole-last c.each.invariant.grouped _ _ _ _ _ takes c.push_next-in-Last.ensures.counted put

pub returns-in-End-clause-ok : goal.returns-in-End-clause-ok
returns-in-End-clause-ok g c =
    let takes = rw c.in-End.is at c.in_ok-next_line.ensures.ok in GroupsWhole-end c.each.invariant.grouped _ _ takes
