use Rattle.test_calls.proofs.coming.calls_wake.Given as goal

abbrev pub ghosts-changes-B-BookNaming : goal.ghosts-changes-B-BookNaming
ghosts-changes-B-BookNaming g a = record { table = a.token.table.shared.table_id; made = a.token.made.name; seats = a.token.made.parts }

abbrev pub ghosts-changes-B-Naming : goal.ghosts-changes-B-Naming
ghosts-changes-B-Naming g a = record { taken = a.token.totals.taken.name; delivered = a.token.totals.delivered.name; parts = a.token.totals.taken.parts }
