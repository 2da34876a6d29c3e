use Rattle.mqtt_wire.proofs.NextLaws.{keeps_header}
use Rattle.mqtt_wire.proofs.splitter.reach_header.Goals as goal

pub returns-in-Some : goal.returns-in-Some
returns-in-Some c = rw c.in-Nothing.is
    (λ held. (keeps_header c.args.stream.now.items c.in-Some.header c.take_header.new.stream.items held.1 (rw c.in-Some.is at c.in_ok-header.ensures), tt))
