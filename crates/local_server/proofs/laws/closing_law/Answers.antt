-- After the close.
use Rattle.local_server.proofs.Happened.{all_passed}
use Rattle.local_server.proofs.LastEvents.{closed_last}
use Rattle.local_server.proofs.laws.closing_law.Goals as goal

pub returns-clause-silent : goal.returns-clause-silent
returns-clause-silent c events outputs old new shut all = (all_passed events outputs old new shut all).0

pub returns-clause-still : goal.returns-clause-still
returns-clause-still c events outputs old new shut all =
    let passed = all_passed events outputs old new shut all in (passed.1, passed.2)

pub returns-clause-last : goal.returns-clause-last
returns-clause-last c moment outputs old new opens happens = closed_last moment outputs old new opens happens
