-- To whom it is said.
use Rattle.local_server.proofs.Addressed.{answered, numbered, new_numbered}
use Rattle.local_server.proofs.laws.addressing_law.Goals as goal

pub returns : goal.returns
returns c setup events outputs moment event result first old new started run happens =
    (answered moment event outputs result old new (numbered events first old (new_numbered setup first started) run) happens).1
