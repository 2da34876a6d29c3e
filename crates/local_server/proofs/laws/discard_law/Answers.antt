-- What is discarded had expired then, or is too long for its client.
use Rattle.local_server.proofs.Discards.{all_discard}
use Rattle.local_server.proofs.TakenSteps.{all_lawful}
use Rattle.local_server.proofs.laws.discard_law.Goals as goal

pub returns : goal.returns
returns c setup events outputs first last new run steps taken = all_discard steps (all_lawful events outputs first last run steps taken)
