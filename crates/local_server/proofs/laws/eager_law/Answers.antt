-- What was given back is handed out first.
use Rattle.local_server.proofs.Eager.{eager, eager_next}
use Rattle.local_server.proofs.laws.eager_law.Goals as goal

pub returns-clause-one : goal.returns-clause-one
returns-clause-one c setup events earlier outputs moment event result first old new begins run happens =
    eager_next setup events earlier outputs moment event result first old new begins run happens

pub returns-clause-all : goal.returns-clause-all
returns-clause-all c setup events outputs first last new run = eager setup events outputs first last new run
