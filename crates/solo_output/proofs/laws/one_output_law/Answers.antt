-- An input has one output, or a line that is not hex.
use Rattle.solo_output.proofs.Output.{exists_output, one_output}
use Rattle.solo_output.proofs.laws.one_output_law.Goals as goal

pub returns-clause-exists : goal.returns-clause-exists
returns-clause-exists c setup input = exists_output setup input

pub returns-clause-unique : goal.returns-clause-unique
returns-clause-unique c setup input one other first second = one_output setup input one other first second
