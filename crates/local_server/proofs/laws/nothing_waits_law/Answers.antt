-- A step leaves nothing to its client that could go.
use Rattle.local_server.proofs.NothingWaits.{in_whole_run}
use Rattle.local_server.proofs.laws.nothing_waits_law.Goals as goal

pub returns : goal.returns
returns c setup events outputs first last new run steps taken = in_whole_run events outputs first last run steps taken
