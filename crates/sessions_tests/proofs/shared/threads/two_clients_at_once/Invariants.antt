use Rattle.sessions_tests.proofs.shared.threads.two_clients_at_once.Given as goal

-- the desk that was just opened
abbrev pub ghosts-both : goal.ghosts-both
ghosts-both g a = record { history = a.opened }
