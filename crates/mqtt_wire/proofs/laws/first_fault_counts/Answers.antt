use Rattle.mqtt_wire.proofs.FirstFaultLaws.{body_tells}
use Rattle.mqtt_wire.proofs.laws.first_fault_counts.Goals as goal

pub returns : goal.returns
returns c = body_tells
