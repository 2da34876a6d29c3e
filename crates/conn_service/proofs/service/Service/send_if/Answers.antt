-- What is written in front of a visit may be written after it.
use Rattle.conn_service.proofs.Leading.{edge_behind}
use Rattle.conn_service.proofs.service.Service.send_if.Goals as goal

pub returns-then-wanted-clause-led : goal.returns-then-wanted-clause-led
unfolding edge_behind
returns-then-wanted-clause-led g c = record {
  led = edge_behind g.T.Transport.counts g.T.Transport.given g.T.Transport.accepted c.args.self.now c.send.new.self c.send.ensures.led.led;
  told = c.send.ensures.led.told.1;
}
