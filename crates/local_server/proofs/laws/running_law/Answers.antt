-- Runs of groups.
use Rattle.local_server.proofs.Happened.{runs}
use Rattle.local_server.proofs.laws.running_law.Goals as goal

pub returns : goal.returns
returns c setup events first last new all = runs setup events first last new all
