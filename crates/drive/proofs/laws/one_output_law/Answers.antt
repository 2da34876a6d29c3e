-- Each input has one output.
use Rattle.drive.specs.Scripts.{script_of}
use Rattle.drive.specs.Streams.{client_script_of}
use Rattle.drive.specs.Transcripts.{lines_of_output, client_lines}
use Rattle.drive.proofs.OneOutput.{one_transcript, one_output}
use Rattle.drive.proofs.laws.one_output_law.Goals as goal

pub returns-clause-transcript : goal.returns-clause-transcript
returns-clause-transcript c lines setup events text text' h k = one_transcript lines setup events text text' h k

pub returns-clause-lines : goal.returns-clause-lines
returns-clause-lines c setup input output output' h k = one_output lines_of_output setup (script_of input) output output' h k

pub returns-clause-client : goal.returns-clause-client
returns-clause-client c setup input output output' h k = one_output client_lines setup (client_script_of input) output output' h k
