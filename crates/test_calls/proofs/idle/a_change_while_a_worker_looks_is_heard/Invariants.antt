use Rattle.test_calls.proofs.idle.a_change_while_a_worker_looks_is_heard.Given as goal

abbrev pub ghosts-idle : goal.ghosts-idle
ghosts-idle g a = record { taken = a.token.taken.name; delivered = a.token.delivered.name; parts = a.token.taken.parts }
