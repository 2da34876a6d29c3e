use Rattle.mqtt_packet.proofs.TextLaws.{text_is_short}
use Rattle.mqtt_packet.proofs.text.Text.as_bytes.Goals as goal

pub returns-clause-short : goal.returns-clause-short
returns-clause-short c = rw (c.as_slice.ensures, c.as_bytes.ensures.value) (text_is_short c.self.inside.text c.self.invariant)
