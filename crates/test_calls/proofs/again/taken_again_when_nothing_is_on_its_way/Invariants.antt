use Rattle.test_calls.proofs.again.taken_again_when_nothing_is_on_its_way.Given as goal

abbrev pub ghosts-work : goal.ghosts-work
ghosts-work g a = record { taken = a.token.taken.name; delivered = a.token.delivered.name; parts = a.token.taken.parts }
