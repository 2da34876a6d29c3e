-- The whole stream of a connection.
use Rattle.local_server.proofs.WholeStreams.{reads_in_run}
use Rattle.local_server.proofs.laws.stream_law.Goals as goal

pub returns : goal.returns
returns c setup events outputs first last new run steps taken connection = reads_in_run setup events outputs first last new run steps taken connection
