-- What `solo` writes for the packets of its client's stream, and for the fault that ends them, if one does.
use Rattle.std.specs.Prelude.{◌≡◌, ℕ, List, ◌++◌, Option, Ok}
use Rattle.std.specs.Option.{option_to_list}
use Rattle.std.specs.List.{flat_map}
use Rattle.mqtt_fields.specs.declared.fault.StreamFault.{StreamFault}
use Rattle.mqtt_packet.specs.declared.packet.Packet.{Packet}
use Rattle.mqtt_wire.specs.Stream.{Reads}
use Rattle.conn_rules.specs.declared.setup.Setup.{Setup}
use Rattle.drive.specs.Transcripts.{client_line}
use Rattle.solo_output.specs.HandOuts.{SoloStep}
use Rattle.solo_output.specs.Replies.{farewell}
use Rattle.solo_output.specs.Report.{reports}
use Rattle.solo_output.specs.Runs.{run_of}
use Rattle.solo_output.specs.Streams.{stream_of}

-- a line for each packet
abbrev pub lines_for : List Packet → List ℕ
lines_for packets = flat_map client_line packets

-- after what all packets brought about: what was sent, the answer to the end of the stream, and the reports
abbrev pub concluded : Option StreamFault → SoloStep → List ℕ
concluded fault solo_step = lines_for (solo_step.sent ++ option_to_list (farewell fault solo_step.solo)) ++ reports solo_step.solo

-- on a server that begins so
abbrev pub solo_output : Setup → List Packet → Option StreamFault → List ℕ
solo_output setup packets fault = concluded fault (run_of setup packets)

-- the output for an input: that for the packets and the fault which the stream of its lines is read as
pub record IsOutputFor (setup : Setup) (input output : List ℕ) : Type 0 where
  pub stream : List ℕ
  pub spelled : stream_of input ≡ Ok stream
  pub packets : List Packet
  pub rest : List ℕ
  pub fault : Option StreamFault
  pub reads : Reads stream packets rest fault
  pub text : output ≡ solo_output setup packets fault
