use Rattle.test_calls.proofs.resting.workers_rest_for_no_refutation_that_is_over.Given as goal

abbrev pub ghosts-rest-B-BookNaming : goal.ghosts-rest-B-BookNaming
ghosts-rest-B-BookNaming g a = record { table = a.token.table.shared.table_id; made = a.token.made.name; seats = a.token.made.parts }

abbrev pub ghosts-rest-B-Naming : goal.ghosts-rest-B-Naming
ghosts-rest-B-Naming g a = record { taken = a.token.totals.taken.name; delivered = a.token.totals.delivered.name; parts = a.token.totals.taken.parts }
