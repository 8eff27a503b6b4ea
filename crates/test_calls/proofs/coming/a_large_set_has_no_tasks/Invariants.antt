use Rattle.test_calls.proofs.coming.a_large_set_has_no_tasks.Given as goal

abbrev pub ghosts-comes_for_nothing-B-BookNaming : goal.ghosts-comes_for_nothing-B-BookNaming
ghosts-comes_for_nothing-B-BookNaming g a = record { table = a.token.table.shared.table_id; made = a.token.made.name; seats = a.token.made.parts }

abbrev pub ghosts-comes_for_nothing-B-Naming : goal.ghosts-comes_for_nothing-B-Naming
ghosts-comes_for_nothing-B-Naming g a = record { taken = a.token.totals.taken.name; delivered = a.token.totals.delivered.name; parts = a.token.totals.taken.parts }
