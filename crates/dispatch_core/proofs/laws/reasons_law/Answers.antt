use Rattle.dispatch_core.proofs.ExactLaws.{may_exactly}
use Rattle.dispatch_core.proofs.laws.reasons_law.Goals as goal

pub returns : goal.returns
returns c state event = may_exactly state event
