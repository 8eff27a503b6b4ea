use Rattle.test_scripts.proofs.ending.run_late.Given as goal

abbrev pub ghosts-run_with_workers-B-BookNaming : goal.ghosts-run_with_workers-B-BookNaming
ghosts-run_with_workers-B-BookNaming g a = record { table = a.token.table.shared.table_id; made = a.token.made.name; seats = a.token.made.parts }

abbrev pub ghosts-run_with_workers-B-Naming : goal.ghosts-run_with_workers-B-Naming
ghosts-run_with_workers-B-Naming g a = record { taken = a.token.totals.taken.name; delivered = a.token.totals.delivered.name; parts = a.token.totals.taken.parts }
