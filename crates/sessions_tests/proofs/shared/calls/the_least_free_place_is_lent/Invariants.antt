use Rattle.sessions_tests.proofs.shared.calls.the_least_free_place_is_lent.Given as goal

-- the desk that was just opened
abbrev pub ghosts-places_day : goal.ghosts-places_day
ghosts-places_day g a = record { history = a.opened }
