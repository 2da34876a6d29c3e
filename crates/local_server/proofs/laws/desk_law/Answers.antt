-- The desk, all along.
use Rattle.local_server.proofs.Happened.{desk, few}
use Rattle.local_server.proofs.laws.desk_law.Goals as goal

pub returns-clause-kept : goal.returns-clause-kept
returns-clause-kept c setup events first last new all = desk setup events first last new all

pub returns-clause-few : goal.returns-clause-few
returns-clause-few c setup events first last new all = few setup events first last new all
