-- Who leaves its group is handed nothing.
use Rattle.local_server.proofs.Leaves.{in_whole_run}
use Rattle.local_server.proofs.SessionLeaves as sessions
use Rattle.local_server.proofs.laws.leaving_law.Goals as goal

pub returns-clause-connection : goal.returns-clause-connection
returns-clause-connection c setup events outputs first last new run steps taken connection = in_whole_run events outputs first last run steps taken connection

pub returns-clause-session : goal.returns-clause-session
returns-clause-session c setup events outputs first last new run steps taken = sessions.in_whole_run setup events outputs first last new run steps taken
