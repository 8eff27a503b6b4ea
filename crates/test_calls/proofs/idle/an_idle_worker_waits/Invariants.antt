use Rattle.test_calls.proofs.idle.an_idle_worker_waits.Given as goal

abbrev pub ghosts-idle : goal.ghosts-idle
ghosts-idle g a = record { taken = a.token.taken.name; delivered = a.token.delivered.name; parts = a.token.taken.parts }
