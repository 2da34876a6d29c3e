-- What an input spells, and what is written, in each form of a run.
use Rattle.std.specs.Prelude.{ℕ, List, Result}
use Rattle.client_table.specs.Clients.{StepOutput}
use Rattle.local_server.specs.declared.event.TimedEvent.{TimedEvent}
use Rattle.drive.specs.declared.form.Form.{Form}
use Rattle.drive.specs.declared.form.Form.TheVariants as forms
use Rattle.drive.specs.Scripts.{script_of}
use Rattle.drive.specs.Streams.{client_script_of}
use Rattle.drive.specs.Transcripts.{lines_of_output, client_lines}

abbrev pub script_as : Form → List ℕ → Result (List TimedEvent) ℕ
script_as forms.Events input = script_of input
script_as forms.Client input = client_script_of input

abbrev pub lines_as : Form → StepOutput → List ℕ
lines_as forms.Events output = lines_of_output output
lines_as forms.Client output = client_lines output
