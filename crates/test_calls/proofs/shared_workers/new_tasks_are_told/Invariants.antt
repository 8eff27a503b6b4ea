use Rattle.test_calls.proofs.shared_workers.new_tasks_are_told.Given as goal

abbrev pub ghosts-look_for_new-B-BookNaming : goal.ghosts-look_for_new-B-BookNaming
ghosts-look_for_new-B-BookNaming g a = record { table = a.token.table.shared.table_id; made = a.token.made.name; seats = a.token.made.parts }

abbrev pub ghosts-look_for_new-B-Naming : goal.ghosts-look_for_new-B-Naming
ghosts-look_for_new-B-Naming g a = record { taken = a.token.totals.taken.name; delivered = a.token.totals.delivered.name; parts = a.token.totals.taken.parts }
