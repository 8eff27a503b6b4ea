use Rattle.test_calls.proofs.shared.full_journal.Given as goal

abbrev pub ghosts-fill-B-BookNaming : goal.ghosts-fill-B-BookNaming
ghosts-fill-B-BookNaming g a = record { table = a.token.table.shared.table_id; made = a.token.made.name; seats = a.token.made.parts }

abbrev pub ghosts-fill-B-Naming : goal.ghosts-fill-B-Naming
ghosts-fill-B-Naming g a = record { taken = a.token.totals.taken.name; delivered = a.token.totals.delivered.name; parts = a.token.totals.taken.parts }
