use Rattle.test_scripts.proofs.each.run_in_groups.Given as goal

abbrev pub ghosts-run_each-B-BookNaming : goal.ghosts-run_each-B-BookNaming
ghosts-run_each-B-BookNaming g a = record { table = a.token.table.shared.table_id; made = a.token.made.name; seats = a.token.made.parts }

abbrev pub ghosts-run_each-B-Naming : goal.ghosts-run_each-B-Naming
ghosts-run_each-B-Naming g a = record { taken = a.token.totals.taken.name; delivered = a.token.totals.delivered.name; parts = a.token.totals.taken.parts }
