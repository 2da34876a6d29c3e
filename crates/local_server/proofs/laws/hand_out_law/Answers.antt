-- What is handed out is what is sent.
use Rattle.local_server.proofs.Happened.{hands}
use Rattle.local_server.proofs.laws.hand_out_law.Goals as goal

pub returns : goal.returns
returns c setup events outputs first last new all = hands setup events outputs first last new all
