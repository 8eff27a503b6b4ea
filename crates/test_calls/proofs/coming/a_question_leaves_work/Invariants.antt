use Rattle.test_calls.proofs.coming.a_question_leaves_work.Given as goal

abbrev pub ghosts-work_after-B-BookNaming : goal.ghosts-work_after-B-BookNaming
ghosts-work_after-B-BookNaming g a = record { table = a.token.table.shared.table_id; made = a.token.made.name; seats = a.token.made.parts }

abbrev pub ghosts-work_after-B-Naming : goal.ghosts-work_after-B-Naming
ghosts-work_after-B-Naming g a = record { taken = a.token.totals.taken.name; delivered = a.token.totals.delivered.name; parts = a.token.totals.taken.parts }
