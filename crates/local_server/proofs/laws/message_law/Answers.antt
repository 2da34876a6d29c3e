-- What is sent was accepted.
use Rattle.local_server.proofs.Transcripts.{messages}
use Rattle.local_server.proofs.laws.message_law.Goals as goal

pub returns : goal.returns
returns c setup events outputs first last new all = messages setup events outputs first last new all
