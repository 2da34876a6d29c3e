use Rattle.sessions_tests.proofs.SessionHolders.{stands_on}
use Rattle.sessions_tests.proofs.one_history.both_withdraw.Goals as goal

pub returns-clause-first : goal.returns-clause-first
returns-clause-first g c = stands_on _ _ _ c.join-one.ensures.first c.agree.ensures.mine

pub returns-clause-second : goal.returns-clause-second
returns-clause-second g c = stands_on _ _ _ c.join-one.ensures.second c.agree.ensures.others
