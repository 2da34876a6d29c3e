-- The lines of the packets so far.
use Rattle.std.proofs.Common.{◌≡◌, ◌++◌, take}
use Rattle.std.specs.List.{flat_map}
use Rattle.drive.specs.Transcripts.{packet_line}
use Rattle.drive.proofs.transcript.Transcript.tell_step.Given as goal

abbrev pub invariant-loop-packet : goal.invariant-loop-packet
invariant-loop-packet l = l.self ≡ l.fn.self ++ flat_map (packet_line l.connection) (take l.packet-index l.packet-items)
