use Rattle.std.proofs.lemmas.Result.{err_from_is_err_and}
use Rattle.scm_sessions.specs.Script.{has_failed}
use Rattle.scm_sessions.proofs.EachRuns.{ReadGroups-read, begun_reply, FindsGroups-shared, groups_named, RunsGroupsWholeLines-fit, RunsGroupsPart-fit}
use Rattle.scm_sessions.proofs.each.run_each.Goals as goal

pub answer_jobs-tallies-requires-after_bounds : goal.answer_jobs-tallies-requires-after_bounds
answer_jobs-tallies-requires-after_bounds g c κs within =
    let read = ReadGroups-read (has_failed c.read_groups.new.reader) c.in_ok-groups.ensures.whole c.in_ok-groups.ensures.whole_lines in
    begun_reply _ read c.in_ok-jobs.ensures.begun

pub returns-in_err-write_replies-clause-write_failed : goal.returns-in_err-write_replies-clause-write_failed
returns-in_err-write_replies-clause-write_failed g c =
    let read = ReadGroups-read (has_failed c.read_groups.new.reader) c.in_ok-groups.ensures.whole c.in_ok-groups.ensures.whole_lines in
    let fault = err_from_is_err_and c.from_residual-in_err-write_replies.result c.from_residual-in_err-write_replies.ensures.1 in
    let error = fault.1 in
    let same = fault.2 in
    let was = c.in_err-write_replies.was in
    λ is. let wrote = rw c.as_slice.ensures.value at c.write_replies.ensures.write_failed (cc) in
    RunsGroupsPart-fit _ _ c.in_ok-jobs.ensures.begun c.answer_jobs-tallies.ensures.answered read wrote

pub returns-in_err-write_replies-clause-read_failed : goal.returns-in_err-write_replies-clause-read_failed
returns-in_err-write_replies-clause-read_failed g c =
    let fault = err_from_is_err_and c.from_residual-in_err-write_replies.result c.from_residual-in_err-write_replies.ensures.1 in
    let error = fault.1 in
    let same = fault.2 in
    let was = c.in_err-write_replies.was in
    λ is. let failed = c.write_replies.ensures.read_failed (cc) in
    let wrote = rw c.as_slice.ensures.value at failed.1 in
    RunsGroupsWholeLines-fit _ _ c.in_ok-jobs.ensures.begun c.answer_jobs-tallies.ensures.answered (c.in_ok-groups.ensures.whole_lines failed.0) wrote

pub returns-clause-ok : goal.returns-clause-ok
returns-clause-ok g c =
    let done = rw c.as_slice.ensures.value at c.in_ok-write_replies.ensures.whole in
    FindsGroups-shared _ _ c.in_ok-jobs.ensures.begun c.answer_jobs-tallies.ensures.answered _ _ _ (c.in_ok-groups.ensures.whole done.0) done.1
    c.gathered-passes.ensures.names c.gathered-passes.ensures.passes c.audit.ensures.agreed.0 done.2

pub returns-clause-named : goal.returns-clause-named
returns-clause-named g c =
    let read = ReadGroups-read (has_failed c.read_groups.new.reader) c.in_ok-groups.ensures.whole c.in_ok-groups.ensures.whole_lines in
    λ agreed. groups_named _ _ c.in_ok-jobs.ensures.begun c.answer_jobs-tallies.ensures.answered _ _ _ read c.gathered-passes.ensures.names
    c.gathered-passes.ensures.passes (c.audit.ensures.agreed.0 agreed)
