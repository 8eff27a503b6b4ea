use Rattle.test_calls.proofs.shared.passes_meet.Given as goal

abbrev pub ghosts-meetings-B-BookNaming : goal.ghosts-meetings-B-BookNaming
ghosts-meetings-B-BookNaming g a = record { table = a.token.table.shared.table_id; made = a.token.made.name; seats = a.token.made.parts }

abbrev pub ghosts-meetings-B-Naming : goal.ghosts-meetings-B-Naming
ghosts-meetings-B-Naming g a = record { taken = a.token.totals.taken.name; delivered = a.token.totals.delivered.name; parts = a.token.totals.taken.parts }
