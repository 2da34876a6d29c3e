-- Whose messages a group accepts.
use Rattle.local_server.proofs.Addressed.{numbered, new_numbered}
use Rattle.local_server.proofs.Publishers.{accepted}
use Rattle.local_server.proofs.laws.publisher_law.Goals as goal

pub returns : goal.returns
returns c setup events outputs moment event result first old new started run happens =
    accepted moment event outputs result old new (numbered events first old (new_numbered setup first started) run) happens
