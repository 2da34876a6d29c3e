-- The headline on one thread.
use Rattle.local_server.proofs.Headline.{headline}
use Rattle.local_server.proofs.laws.headline_law.Goals as goal

pub returns : goal.returns
returns c setup events first last new all = headline setup events first last new all
