-- What a server says is what the model comes to.
use Rattle.solo_output.proofs.Streams.{bad_lines}
use Rattle.solo_output.proofs.Output.{closed, of_each}
use Rattle.solo_output.proofs.laws.solo_output_law.Goals as goal

pub returns-clause-closed_form : goal.returns-clause-closed_form
returns-clause-closed_form c setup input output few small is = closed setup input output (record { few = few; small = small }) is

pub returns-clause-each_reading : goal.returns-clause-each_reading
returns-clause-each_reading c setup input output stream packets rest fault few small is spelled reads = of_each setup input output stream packets rest fault (record { few = few; small = small }) is spelled reads

pub returns-clause-bad_line : goal.returns-clause-bad_line
returns-clause-bad_line c input line = bad_lines input line
