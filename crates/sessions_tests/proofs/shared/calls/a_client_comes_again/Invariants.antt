use Rattle.sessions_tests.proofs.shared.calls.a_client_comes_again.Given as goal

-- the desk that was just opened
abbrev pub ghosts-two_visits : goal.ghosts-two_visits
ghosts-two_visits g a = record { history = a.opened }
