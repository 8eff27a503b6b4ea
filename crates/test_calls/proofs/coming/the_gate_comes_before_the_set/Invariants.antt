use Rattle.test_calls.proofs.coming.the_gate_comes_before_the_set.Given as goal

abbrev pub ghosts-pass_gate-B-BookNaming : goal.ghosts-pass_gate-B-BookNaming
ghosts-pass_gate-B-BookNaming g a = record { table = a.token.table.shared.table_id; made = a.token.made.name; seats = a.token.made.parts }

abbrev pub ghosts-pass_gate-B-Naming : goal.ghosts-pass_gate-B-Naming
ghosts-pass_gate-B-Naming g a = record { taken = a.token.totals.taken.name; delivered = a.token.totals.delivered.name; parts = a.token.totals.taken.parts }
