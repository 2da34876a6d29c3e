-- A close ends every connection.
use Rattle.local_server.proofs.Emptied.{emptied}
use Rattle.local_server.proofs.laws.emptying_law.Goals as goal

pub returns : goal.returns
returns c moment outputs result old new opens happens = emptied moment outputs result old new opens happens
