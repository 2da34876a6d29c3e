use Rattle.mqtt_wire.proofs.StreamLaws.{exists_reading, one_reading}
use Rattle.mqtt_wire.proofs.laws.streams_have_one_reading.Goals as goal

pub returns : goal.returns
returns c = record { exists = exists_reading; unique = one_reading }
