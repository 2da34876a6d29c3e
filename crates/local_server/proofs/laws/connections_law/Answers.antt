-- No connection vanishes.
use Rattle.local_server.proofs.Connections.{kept_in_run, others_stay}
use Rattle.local_server.proofs.laws.connections_law.Goals as goal

pub returns-clause-kept : goal.returns-clause-kept
returns-clause-kept c setup events outputs first last new run steps taken = kept_in_run setup events outputs first last new run steps taken

pub returns-clause-others : goal.returns-clause-others
returns-clause-others c moment event outputs result old new connection happens apart = others_stay moment event outputs result old new connection happens apart
