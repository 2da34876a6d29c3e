use Rattle.session_desk.proofs.OneAnswer.{one_answer}
use Rattle.session_desk.proofs.laws.one_answer_law.Goals as goal

pub returns : goal.returns
returns g c cell old new new' call other law asks had also makes makes' = one_answer cell old new new' law call other asks had also makes makes'
