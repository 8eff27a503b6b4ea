use Rattle.test_calls.proofs.waiting.a_question_waits.Given as goal

abbrev pub ghosts-ask_at_once-B-BookNaming : goal.ghosts-ask_at_once-B-BookNaming
ghosts-ask_at_once-B-BookNaming g a = record { table = a.token.table.shared.table_id; made = a.token.made.name; seats = a.token.made.parts }

abbrev pub ghosts-ask_at_once-B-Naming : goal.ghosts-ask_at_once-B-Naming
ghosts-ask_at_once-B-Naming g a = record { taken = a.token.totals.taken.name; delivered = a.token.totals.delivered.name; parts = a.token.totals.taken.parts }
