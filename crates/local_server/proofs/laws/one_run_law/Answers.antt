-- A run has one outcome.
use Rattle.local_server.proofs.OneRun as runs
use Rattle.local_server.proofs.laws.one_run_law.Goals as goal

pub returns-clause-new : goal.returns-clause-new
returns-clause-new c setup a b is also = runs.new setup a b is also

pub returns-clause-one : goal.returns-clause-one
returns-clause-one c moment event outputs outputs' a b a' b' alike law h k = let both = runs.happened a b a' b' moment event outputs outputs' (law, alike) h k in (both.0, both.1.1)

pub returns-clause-all : goal.returns-clause-all
returns-clause-all c setup events outputs outputs' first first' last last' is also h k = runs.one_run setup events outputs outputs' first first' last last' is also h k
