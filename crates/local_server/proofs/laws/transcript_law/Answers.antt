-- The transcripts of the sessions.
use Rattle.local_server.proofs.Transcripts.{transcripts, along}
use Rattle.local_server.proofs.laws.transcript_law.Goals as goal

pub returns-clause-whole : goal.returns-clause-whole
returns-clause-whole c setup events outputs first last new run = transcripts setup events outputs first last new run

pub returns-clause-along : goal.returns-clause-along
returns-clause-along c setup events outputs first last new run = along setup events outputs first last new run
