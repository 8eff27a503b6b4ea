use Rattle.test_calls.proofs.shared_workers.worked_off.Given as goal

abbrev pub ghosts-work_off-B-BookNaming : goal.ghosts-work_off-B-BookNaming
ghosts-work_off-B-BookNaming g a = record { table = a.token.table.shared.table_id; made = a.token.made.name; seats = a.token.made.parts }

abbrev pub ghosts-work_off-B-Naming : goal.ghosts-work_off-B-Naming
ghosts-work_off-B-Naming g a = record { taken = a.token.totals.taken.name; delivered = a.token.totals.delivered.name; parts = a.token.totals.taken.parts }
