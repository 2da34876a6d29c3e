-- The lines of an input are what each 0A ends.
use Rattle.text_io.proofs.Joining.{whole, joined}
use Rattle.text_io.proofs.laws.lines_law.Goals as goal

pub returns-clause-whole : goal.returns-clause-whole
returns-clause-whole c input = whole input

pub returns-clause-joined : goal.returns-clause-joined
returns-clause-joined c input = joined input
