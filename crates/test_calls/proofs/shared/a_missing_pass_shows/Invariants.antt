use Rattle.test_calls.proofs.shared.a_missing_pass_shows.Given as goal

abbrev pub ghosts-held_back-B-BookNaming : goal.ghosts-held_back-B-BookNaming
ghosts-held_back-B-BookNaming g a = record { table = a.token.table.shared.table_id; made = a.token.made.name; seats = a.token.made.parts }

abbrev pub ghosts-held_back-B-Naming : goal.ghosts-held_back-B-Naming
ghosts-held_back-B-Naming g a = record { taken = a.token.totals.taken.name; delivered = a.token.totals.delivered.name; parts = a.token.totals.taken.parts }
