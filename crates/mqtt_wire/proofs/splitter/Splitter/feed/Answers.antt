use Rattle.std.proofs.Common.{◌++◌, append_assoc, arith}
use Rattle.mqtt_fields.proofs.Steps.{append_bytes}
use Rattle.mqtt_wire.specs.Frame.{bytes_in_hand}
use Rattle.mqtt_wire.proofs.splitter.Splitter.feed.Goals as goal

pub invariant_of-self-2 : goal.invariant_of-self-2
invariant_of-self-2 c = (
  c.self.invariant.0,
  λ i. rw (c.in_ok-extend_from_slice.ensures.ok, c.make_room.ensures, ← append_assoc (bytes_in_hand c.self.inside.in_hand) c.self.inside.stream.items c.args.piece.now)
      (append_bytes (bytes_in_hand c.self.inside.in_hand ++ c.self.inside.stream.items) c.args.piece.now c.self.invariant.1 (λ k. omega (arith, c.type_inv.piece k)) i),
)
