use Rattle.test_calls.proofs.tallies.tallies_add_up_where_none_is_missing.Given as goal

abbrev pub ghosts-settled : goal.ghosts-settled
ghosts-settled g a = record { taken = a.token.taken.name; delivered = a.token.delivered.name; parts = a.token.taken.parts }
