-- Who binds a share sees it bound.
use Rattle.threaded_broker.proofs.Bound.{sees}
use Rattle.threaded_broker.proofs.shares.declare.Goals as goal

pub returns-in-Ok-clause-bound : goal.returns-in-Ok-clause-bound
returns-in-Ok-clause-bound c = sees _ _ _ _ c.in-Ok.ensures.answer c.in-Ok.ensures.small
