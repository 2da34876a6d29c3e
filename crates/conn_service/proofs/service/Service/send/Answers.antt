-- One write more.
use Rattle.std.proofs.Common.{ap, refl, ◌∙◌, inl, rules}
use Rattle.conn_service.specs.Services.{ServiceState}
use Rattle.conn_service.proofs.AtEdge.{held_up}
use Rattle.conn_service.proofs.Leading.{edge_nothing, edge_one, edge_on}
use Rattle.conn_service.proofs.Rounds.{writes_on, less_waits}
use Rattle.conn_service.specs.declared.served.Served.TheVariants as served
use Rattle.conn_service.proofs.Advancing.{begun_on, sends_all, sends_some, sends_ended}
use Rattle.conn_service.proofs.service.Service.send.Goals as goal

pub returns-then-not-may_pass-clause-led : goal.returns-then-not-may_pass-clause-led
returns-then-not-may_pass-clause-led g c =
    sends_ended g.T.Transport.counts g.T.Transport.given g.T.Transport.accepted c.args.now c.args.self.now _ served.NoCrossing
    (edge_on g.T.Transport.counts g.T.Transport.given g.T.Transport.accepted c.args.self.now c.writes.self _ c.writes.invariant.led
    (held_up g.T.Transport.counts g.T.Transport.given g.T.Transport.accepted c.writes.self _ c.self.view_is c.writes.invariant.going (λ none. cc (c.writes-test.ensures.1 (ap (λ (s : ServiceState g.row.P.Denot g.row.T.Denot). s.outgoing) c.self.view_is ∙ none)))))
    refl

pub writes-init : goal.writes-init
unfolding edge_nothing
writes-init g c = record {
  led = edge_nothing g.T.Transport.counts g.T.Transport.given g.T.Transport.accepted c.args.self.now c.args.self.now refl;
  going = c.requires.going;
  client = refl;
  begun = inl (refl, refl);
  idles = (refl, refl);
  unread = refl;
  nothing = λ none. refl;
}

pub writes-smaller : goal.writes-smaller
writes-smaller g c =
    less_waits g.T.Transport.counts g.T.Transport.given g.T.Transport.accepted c.args.now c.in-Wrote.field-0 c.writes.self c.write_once.new.self c.in-Wrote.ensures

pub writes-preserved : goal.writes-preserved
unfolding writes_on edge_on edge_one
writes-preserved g c = record {
  led = writes_on g.T.Transport.counts g.T.Transport.given g.T.Transport.accepted c.args.now c.write_once.result c.args.self.now c.writes.self c.write_once.new.self c.writes.invariant.led c.write_once.ensures;
  going = search rules;
  client = search rules;
  begun = begun_on c.args.now c.write_once.result c.args.self.now c.writes.self c.write_once.new.self c.writes.invariant.led.acts (rw c.in-Wrote.is tt) c.writes.invariant.begun;
  idles = search rules;
  unread = c.write_once.ensures.given_is ∙ c.writes.invariant.unread;
  nothing = λ none. cc (c.writes-test.ensures.1 (ap (λ (s : ServiceState g.row.P.Denot g.row.T.Denot). s.outgoing) (c.self.view_is ∙ c.writes.invariant.nothing none) ∙ none));
}

pub returns-in-Idle-clause-led : goal.returns-in-Idle-clause-led
returns-in-Idle-clause-led g c =
    sends_some g.T.Transport.counts g.T.Transport.given g.T.Transport.accepted c.args.now c.args.self.now c.writes.self c.write_once.new.self c.writes.invariant.led c.writes.invariant.begun c.in-Idle.ensures

pub returns-clause-led : goal.returns-clause-led
returns-clause-led g c = sends_all g.T.Transport.counts g.T.Transport.given g.T.Transport.accepted c.args.now c.args.self.now c.writes.self c.writes.invariant.led c.writes.invariant.begun (search rules)

pub returns-in-Failed-clause-led : goal.returns-in-Failed-clause-led
returns-in-Failed-clause-led g c =
    sends_ended g.T.Transport.counts g.T.Transport.given g.T.Transport.accepted c.args.now c.args.self.now c.write_once.new.self served.Write
    (writes_on g.T.Transport.counts g.T.Transport.given g.T.Transport.accepted c.args.now c.write_once.result c.args.self.now c.writes.self c.write_once.new.self c.writes.invariant.led c.write_once.ensures)
    (search rules)

pub returns-then-not-may_pass-clause-nothing : goal.returns-then-not-may_pass-clause-nothing
returns-then-not-may_pass-clause-nothing g c = λ none. cc (c.writes-test.ensures.1 (ap (λ (s : ServiceState g.row.P.Denot g.row.T.Denot). s.outgoing) (c.self.view_is ∙ c.writes.invariant.nothing none) ∙ none))

pub returns-in-Idle-clause-nothing : goal.returns-in-Idle-clause-nothing
returns-in-Idle-clause-nothing g c = λ none. cc (c.writes-test.ensures.1 (ap (λ (s : ServiceState g.row.P.Denot g.row.T.Denot). s.outgoing) (c.self.view_is ∙ c.writes.invariant.nothing none) ∙ none))

pub returns-in-Failed-clause-nothing : goal.returns-in-Failed-clause-nothing
returns-in-Failed-clause-nothing g c = λ none. cc (c.writes-test.ensures.1 (ap (λ (s : ServiceState g.row.P.Denot g.row.T.Denot). s.outgoing) (c.self.view_is ∙ c.writes.invariant.nothing none) ∙ none))
