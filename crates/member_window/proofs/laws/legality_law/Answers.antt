use Rattle.member_window.proofs.Legality.{at_each_prefix, legal_by_prefixes}
use Rattle.member_window.proofs.laws.legality_law.Goals as goal

pub returns : goal.returns
returns g c entries marks = (at_each_prefix entries marks, legal_by_prefixes entries marks)
