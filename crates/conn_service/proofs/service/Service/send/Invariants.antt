-- What was written so far.
use Rattle.std.proofs.Common.{◌≡◌, [], None, length}
use Rattle.conn_service.specs.Services.{KeepsIdles}
use Rattle.conn_service.specs.Visits.{Outside}
use Rattle.conn_service.specs.Edges.{LeadsAtEdge}
use Rattle.conn_service.proofs.Advancing.{IsBegun}
use Rattle.conn_service.proofs.service.Service.send.Given as goal

abbrev pub invariant-writes : goal.invariant-writes
invariant-writes g l = record {
  led : LeadsAtEdge g.T.Transport.counts g.T.Transport.given g.T.Transport.accepted l.fn.now Outside l.fn.self l.self;
  going : l.self.ending ≡ None;
  client : l.self.client ≡ l.fn.self.client;
  begun : IsBegun l.fn.self l.self led.acts;
  idles : KeepsIdles g.T.Transport.counts l.fn.self l.self;
  unread : g.T.Transport.given l.self.transport ≡ g.T.Transport.given l.fn.self.transport;
  nothing : l.fn.self.outgoing ≡ [] → l.self ≡ l.fn.self;
}

abbrev pub decreases-writes : goal.decreases-writes
decreases-writes g l = length l.self.outgoing
