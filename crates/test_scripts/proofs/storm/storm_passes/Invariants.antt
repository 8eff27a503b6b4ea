use Rattle.test_scripts.proofs.storm.storm_passes.Given as goal

abbrev pub ghosts-storm-B-BookNaming : goal.ghosts-storm-B-BookNaming
ghosts-storm-B-BookNaming g a = record { table = a.token.table.shared.table_id; made = a.token.made.name; seats = a.token.made.parts }

abbrev pub ghosts-storm-B-Naming : goal.ghosts-storm-B-Naming
ghosts-storm-B-Naming g a = record { taken = a.token.totals.taken.name; delivered = a.token.totals.delivered.name; parts = a.token.totals.taken.parts }
