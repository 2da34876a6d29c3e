-- A place is in balance.
use Rattle.std.proofs.Common.{subst}
use Rattle.group_jobs.specs.Balance.{Balance}
use Rattle.group_queue.specs.Places.{account_of}
use Rattle.group_queue.proofs.place.Place.docket.Goals as goal

pub returns-clause-balance : goal.returns-clause-balance
returns-clause-balance g c = subst (λ p. Balance (account_of p)) c.self.view_is c.self.invariant.0.balanced
