use Rattle.test_calls.proofs.shared_workers.a_late_delivery_wakes_nobody.Given as goal

abbrev pub ghosts-deliver_late-B-BookNaming : goal.ghosts-deliver_late-B-BookNaming
ghosts-deliver_late-B-BookNaming g a = record { table = a.token.table.shared.table_id; made = a.token.made.name; seats = a.token.made.parts }

abbrev pub ghosts-deliver_late-B-Naming : goal.ghosts-deliver_late-B-Naming
ghosts-deliver_late-B-Naming g a = record { taken = a.token.totals.taken.name; delivered = a.token.totals.delivered.name; parts = a.token.totals.taken.parts }
