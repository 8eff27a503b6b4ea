use Rattle.test_calls.proofs.resting.calls_while_a_worker_is_held.Given as goal

abbrev pub ghosts-hold-B-BookNaming : goal.ghosts-hold-B-BookNaming
ghosts-hold-B-BookNaming g a = record { table = a.token.table.shared.table_id; made = a.token.made.name; seats = a.token.made.parts }

abbrev pub ghosts-hold-B-Naming : goal.ghosts-hold-B-Naming
ghosts-hold-B-Naming g a = record { taken = a.token.totals.taken.name; delivered = a.token.totals.delivered.name; parts = a.token.totals.taken.parts }
