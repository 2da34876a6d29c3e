use Rattle.mqtt_wire.proofs.StreamLaws.{one_packet}
use Rattle.mqtt_wire.proofs.laws.spellings_are_told_apart.Goals as goal

pub returns : goal.returns
returns c = one_packet
