use Rattle.sessions_tests.proofs.SessionHolders.{stands_told}
use Rattle.sessions_tests.proofs.one_history.withdraw_as.Goals as goal

pub returns : goal.returns
returns g c = stands_told _ _ _ c.withdraw.ensures.told
