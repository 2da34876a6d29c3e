-- The quota of every connection.
use Rattle.local_server.proofs.Quotas.{happened, within}
use Rattle.local_server.proofs.laws.quota_law.Goals as goal

pub returns-clause-one : goal.returns-clause-one
returns-clause-one c moment event outputs result old new happens all = happened moment event outputs result old new happens all

pub returns-clause-all : goal.returns-clause-all
returns-clause-all c setup events first last new run = within setup events first last new run
