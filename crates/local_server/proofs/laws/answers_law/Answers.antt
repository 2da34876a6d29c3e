-- The steps of a run.
use Rattle.local_server.proofs.TakenSteps.{taken}
use Rattle.local_server.proofs.laws.answers_law.Goals as goal

pub returns : goal.returns
returns c setup events outputs first last new run = taken setup events outputs first last new run
