-- What is acknowledged is settled.
use Rattle.local_server.proofs.Transcripts.{settlings}
use Rattle.local_server.proofs.laws.settling_law.Goals as goal

pub returns : goal.returns
returns c setup events outputs first last new all = settlings setup events outputs first last new all
