use Rattle.sessions_tests.proofs.shared.calls.who_is_asked_for_its_session_is_kicked.Given as goal

-- the desk that was just opened
abbrev pub ghosts-takeover_day : goal.ghosts-takeover_day
ghosts-takeover_day g a = record { history = a.opened }
