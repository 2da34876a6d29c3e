use Rattle.std.proofs.Common.{sym}
use Rattle.mqtt_wire.proofs.WritingLaws.{refused_size}
use Rattle.mqtt_wire.proofs.sizes.connack_size.Goals as goal

pub returns-in-Refused : goal.returns-in-Refused
returns-in-Refused c = rw c.in-Refused.is (sym (refused_size c.in-Refused.field-0))
