-- The desk is the one that was opened.
use Rattle.supply_tests.proofs.broker.crew.live.Given as goal

abbrev pub ghosts-live_with : goal.ghosts-live_with
ghosts-live_with g a = record { history = a.desk }
