-- A list of calls.
use Rattle.local_server.proofs.Happened.{happened, undergone, undergoes}
use Rattle.local_server.proofs.laws.happenings_law.Goals as goal

pub returns-clause-one : goal.returns-clause-one
returns-clause-one c moment event outputs result old new happens = happened moment event outputs result old new happens

pub returns-clause-all : goal.returns-clause-all
returns-clause-all c events old new all = undergone events old new all

pub returns-clause-without : goal.returns-clause-without
returns-clause-without c events outputs old new all = undergoes events outputs old new all
