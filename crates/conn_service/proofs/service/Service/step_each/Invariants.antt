-- What was stepped so far.
use Rattle.std.proofs.Common.{true, ◌≡◌, ◌≢◌, ◌+◌, None, length}
use Rattle.conn_engine.specs.declared.phase.ConnPhase.TheVariants.{Ended}
use Rattle.conn_service.specs.Services.{KeepsEdge}
use Rattle.conn_service.specs.Acts.{packets_in}
use Rattle.conn_service.specs.Visits.{Inside}
use Rattle.conn_service.specs.Advances.{LeadsBy}
use Rattle.conn_service.proofs.service.Service.step_each.Given as goal

abbrev pub invariant-packets : goal.invariant-packets
invariant-packets g l = record {
  led : LeadsBy g.S.Supply.call g.S.Supply.begins g.S.Supply.ends g.S.Supply.visiting g.P.Place.slot_of g.T.Transport.counts g.T.Transport.given g.T.Transport.accepted
      (λ acts. packets_in acts + l.left ≡ l.fn.left) l.fn.now (Inside true) (Inside true) l.fn.self l.fn.supply l.self l.supply;
  going : l.self.ending ≡ None;
  not_over : l.self.client.conn.phase ≢ Ended;
  stays : KeepsEdge l.fn.self l.self;
  visiting : g.S.Supply.visiting l.supply ≡ g.S.Supply.visiting l.fn.supply;
}

abbrev pub decreases-packets : goal.decreases-packets
decreases-packets g l = length l.self.client.unread.bytes
