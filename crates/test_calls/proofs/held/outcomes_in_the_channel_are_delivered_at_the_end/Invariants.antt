use Rattle.test_calls.proofs.held.outcomes_in_the_channel_are_delivered_at_the_end.Given as goal

abbrev pub ghosts-end_early-B-BookNaming : goal.ghosts-end_early-B-BookNaming
ghosts-end_early-B-BookNaming g a = record { table = a.token.table.shared.table_id; made = a.token.made.name; seats = a.token.made.parts }

abbrev pub ghosts-end_early-B-Naming : goal.ghosts-end_early-B-Naming
ghosts-end_early-B-Naming g a = record { taken = a.token.totals.taken.name; delivered = a.token.totals.delivered.name; parts = a.token.totals.taken.parts }
