use Rattle.test_calls.proofs.shared_workers.report_during_expand.Given as goal

abbrev pub ghosts-call_meanwhile-B-BookNaming : goal.ghosts-call_meanwhile-B-BookNaming
ghosts-call_meanwhile-B-BookNaming g a = record { table = a.token.table.shared.table_id; made = a.token.made.name; seats = a.token.made.parts }

abbrev pub ghosts-call_meanwhile-B-Naming : goal.ghosts-call_meanwhile-B-Naming
ghosts-call_meanwhile-B-Naming g a = record { taken = a.token.totals.taken.name; delivered = a.token.totals.delivered.name; parts = a.token.totals.taken.parts }
