use Rattle.mqtt_wire.proofs.StreamLaws.{written_spells, read_again}
use Rattle.mqtt_wire.proofs.laws.written_packets_are_read_again.Goals as goal

pub returns : goal.returns
returns c = record { spelled = written_spells; again = read_again }
