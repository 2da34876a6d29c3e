use Rattle.mqtt_wire.proofs.ShortLaws.{takes_short}
use Rattle.mqtt_wire.proofs.splitter.take_packet.Goals as goal

pub returns-in-Some : goal.returns-in-Some
returns-in-Some c =
    rw c.in-Nothing.is
    (λ held. takes_short c.args.stream.now.items c.in-Some.packet c.take_short.new.stream.items held (c.in-Some.ensures.taken held.1))
