-- The quota of each connection is that of its CONNECT.
use Rattle.local_server.proofs.ReceiveMaximums.{all_keep}
use Rattle.local_server.proofs.laws.receive_maximum_law.Goals as goal

pub returns : goal.returns
returns c setup events outputs first last new run steps taken connection = all_keep setup events outputs first last new run steps taken connection
