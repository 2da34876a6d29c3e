use Rattle.member_window.proofs.Legality.{legal_append, legal_goes_on}
use Rattle.member_window.proofs.laws.continuation_law.Goals as goal

pub returns-clause-onward : goal.returns-clause-onward
returns-clause-onward g c s before behind legal more = legal_append s before behind legal more

pub returns-clause-from_held : goal.returns-clause-from_held
returns-clause-from_held g c entries before behind legal more = legal_goes_on entries before behind legal more
