-- What is written of a run: what each step of a connection wrote, and the reports (profile).
use Rattle.std.specs.Prelude.{◌≡◌, ℕ, zero, suc, codes, List, [], ◌∷◌, ◌++◌, length, Option, Result, Ok}
use Rattle.std.specs.List.{flat_map}
use Rattle.std.specs.Fmt.{decimal}
use Rattle.std.specs.Io.KnownBytes.{Appends}
use Rattle.mqtt_packet.specs.declared.packet.Packet.{Packet}
use Rattle.mqtt_wire.specs.Writing.{written}
use Rattle.conn_supply.specs.declared.reply.Then.{Then}
use Rattle.conn_supply.specs.declared.reply.Then.TheVariants as thens
use Rattle.client_table.specs.Clients.{StepOutput}
use Rattle.local_broker.specs.Broker.{Broker}
use Rattle.local_broker.specs.Reporting.{TellsLine}
use Rattle.local_server.specs.declared.event.TimedEvent.{TimedEvent}
use Rattle.conn_rules.specs.declared.setup.Setup.{Setup}
use Rattle.local_server.specs.Servers.{ServerState, IsNewServer}
use Rattle.local_server.specs.Happening.{HappensAll}
use Rattle.hex.specs.Hex.{encode_lower}
use Rattle.text_io.specs.Passing.{Begins}
use Rattle.drive.specs.Scripts.{script_of}
use Rattle.drive.specs.Streams.{client_script_of}

-- bytes in lower case hex, and 0A
abbrev pub hex_line : List ℕ → List ℕ
hex_line bytes = encode_lower bytes ++ 10 ∷ []

-- a packet in a run of many connections: the number of its own, and its bytes in lower case hex
abbrev pub packet_line : ℕ → Packet → List ℕ
packet_line connection packet = decimal connection ++ 32 ∷ hex_line (written packet)

-- where a connection ends, the number and a word
abbrev pub next_line : ℕ → Then → List ℕ
next_line connection thens.Go = []
next_line connection thens.Close = decimal connection ++ codes " close\n"
next_line connection thens.Kicked = decimal connection ++ codes " kicked\n"

-- what one step of a connection wrote, and where the connection ends, that
abbrev pub lines_of_output : StepOutput → List ℕ
lines_of_output output = flat_map (packet_line output.connection) output.packets ++ next_line output.connection output.next

-- a packet in a run of one connection: its bytes alone
abbrev pub client_line : Packet → List ℕ
client_line packet = hex_line (written packet)

-- what one step of the only connection wrote
abbrev pub client_lines : StepOutput → List ℕ
client_lines output = flat_map client_line output.packets

-- the lines of the reports of the first so many shares, in the order of their slots
abbrev pub ReportsFirst : ℕ → Broker → List ℕ → Type 0
ReportsFirst zero b text = text ≡ []
ReportsFirst (suc slot) b text = (earlier line : List ℕ) × ReportsFirst slot b earlier × TellsLine b slot line × (text ≡ earlier ++ line)

-- A run of a server over these events: the lines of what is said in them, and then the reports.
pub record IsTranscript (lines : StepOutput → List ℕ) (setup : Setup) (events : List TimedEvent) (text : List ℕ) : Type 0 where
  pub first : ServerState
  pub new : IsNewServer setup first
  pub outputs : List StepOutput
  pub last : ServerState
  pub happens : HappensAll first events outputs last
  pub reports : List ℕ
  pub reported : ReportsFirst (length last.broker.routes) last.broker reports
  pub whole : text ≡ flat_map lines outputs ++ reports

-- the transcript of the events that an input spells
pub record IsOutput (script : Result (List TimedEvent) ℕ) (lines : StepOutput → List ℕ) (setup : Setup) (output : List ℕ) : Type 0 where
  pub events : List TimedEvent
  pub spelled : script ≡ Ok events
  pub transcript : IsTranscript lines setup events output

-- the output of `drive_lines` for an input
abbrev pub IsDriveOutput : Setup → List ℕ → List ℕ → Type 0
IsDriveOutput setup input output = IsOutput (script_of input) lines_of_output setup output

-- the output of `drive_client` for an input
abbrev pub IsClientOutput : Setup → List ℕ → List ℕ → Type 0
IsClientOutput setup input output = IsOutput (client_script_of input) client_lines setup output

-- the writer got an output that is so, and nothing else
pub record Writes (IsSo : List ℕ → Type 0) (old new : Option (List ℕ)) : Type 0 where
  pub output : List ℕ
  pub defined_by : IsSo output
  pub written : Appends old new output

-- the writer got a beginning of an output that is so, perhaps all of it, perhaps nothing
pub record BeginsTo (IsSo : List ℕ → Type 0) (old new : Option (List ℕ)) : Type 0 where
  pub output : List ℕ
  pub defined_by : IsSo output
  pub begun : Begins old new output
