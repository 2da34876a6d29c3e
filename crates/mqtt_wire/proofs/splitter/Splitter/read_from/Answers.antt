use Rattle.std.proofs.Common.{subst}
use Rattle.mqtt_wire.specs.Frame.{bytes_in_hand}
use Rattle.mqtt_fields.specs.Forms.{AreBytes}
use Rattle.mqtt_fields.proofs.Steps.{append_bytes}
use Rattle.mqtt_wire.proofs.NextLaws.{front_bytes}
use Rattle.mqtt_wire.proofs.splitter.Splitter.read_from.Goals as goal

pub invariant_of-self-2 : goal.invariant_of-self-2
invariant_of-self-2 g c = (
  c.self.invariant.0,
  λ i. append_bytes (bytes_in_hand c.self.inside.in_hand) c.read_from.new.self.items
      (λ j. front_bytes (bytes_in_hand c.self.inside.in_hand) c.self.inside.stream.items c.self.invariant.1 j) (λ j. subst AreBytes c.deref.ensures c.count.ensures.bytes j) i,
)
