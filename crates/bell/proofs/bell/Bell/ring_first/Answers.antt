use Rattle.bell.proofs.Calling.{ring_called}
use Rattle.bell.proofs.bell.Bell.ring_first.Goals as goal

pub returns-clause-rang : goal.returns-clause-rang
returns-clause-rang g c = ring_called _ _ _ _ _ _ _ _ _ _ c.raise-found.ensures.few c.raise-found.ensures.rang c.raise-found.ensures.idle
    c.call_idle-woken.ensures.called c.call_idle-others.ensures.called
