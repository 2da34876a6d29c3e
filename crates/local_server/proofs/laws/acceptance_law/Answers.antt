-- A PUBACK says which groups accepted the message.
use Rattle.local_server.proofs.Acceptance.{all_acknowledge}
use Rattle.local_server.proofs.TakenSteps.{all_lawful}
use Rattle.local_server.proofs.laws.acceptance_law.Goals as goal

pub returns : goal.returns
returns c setup events outputs first last new run steps taken = all_acknowledge steps (all_lawful events outputs first last run steps taken)
