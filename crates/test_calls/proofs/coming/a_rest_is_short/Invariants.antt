use Rattle.test_calls.proofs.coming.a_rest_is_short.Given as goal

abbrev pub ghosts-looks_soon-B-BookNaming : goal.ghosts-looks_soon-B-BookNaming
ghosts-looks_soon-B-BookNaming g a = record { table = a.token.table.shared.table_id; made = a.token.made.name; seats = a.token.made.parts }

abbrev pub ghosts-looks_soon-B-Naming : goal.ghosts-looks_soon-B-Naming
ghosts-looks_soon-B-Naming g a = record { taken = a.token.totals.taken.name; delivered = a.token.totals.delivered.name; parts = a.token.totals.taken.parts }
