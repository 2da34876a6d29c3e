-- A round: what waits is written, then it is stepped, and then again what waits is written.
use Rattle.std.proofs.Common.{[], ◌++◌, ◌∙◌, rules, arith}
use Rattle.conn_service.specs.Services.{most_packets}
use Rattle.conn_service.proofs.Leading.{leads_on, leads_at_edge, leads_past}
use Rattle.conn_service.proofs.Rounds.{edge_then, then_edge, idles_kept, idles_before, idles_behind, ticks_on}
use Rattle.conn_service.proofs.Counting.{few_from_edge, few_to_edge}
use Rattle.conn_service.proofs.Advancing.{begins_first, round_told}
use Rattle.conn_service.proofs.service.Service.go_on.Goals as goal

pub returns-in_err-send-clause-led : goal.returns-in_err-send-clause-led
unfolding leads_past leads_on leads_at_edge
returns-in_err-send-clause-led g c = record {
  led = leads_past g.S.Supply.call g.S.Supply.begins g.S.Supply.ends g.S.Supply.visiting g.P.Place.slot_of g.T.Transport.counts g.T.Transport.given g.T.Transport.accepted c.args.self.now c.send.new.self c.args.supply.now c.args.supply.now
      (leads_at_edge g.S.Supply.call g.S.Supply.begins g.S.Supply.ends g.S.Supply.visiting g.P.Place.slot_of g.T.Transport.counts g.T.Transport.given g.T.Transport.accepted c.args.self.now
      c.send.new.self c.args.supply.now c.send.ensures.led.led);
  told = (
    few_from_edge g.T.Transport.counts g.T.Transport.given g.T.Transport.accepted most_packets [] c.args.self.now c.send.new.self c.send.ensures.led.led (omega arith),
    (λ waits going. cc (c.in_err-send.ensures.ended, going)),
    search rules,
  );
}

pub returns-in_err-all-clause-led : goal.returns-in_err-all-clause-led
unfolding edge_then leads_on leads_at_edge
returns-in_err-all-clause-led g c = record {
  led = edge_then g.S.Supply.call g.S.Supply.begins g.S.Supply.ends g.S.Supply.visiting g.P.Place.slot_of g.T.Transport.counts g.T.Transport.given g.T.Transport.accepted c.args.self.now
      c.send.new.self c.visit.new.self c.args.supply.now c.visit.new.supply c.send.ensures.led.led c.visit.ensures.led.led;
  told = (
    few_from_edge g.T.Transport.counts g.T.Transport.given g.T.Transport.accepted most_packets c.visit.ensures.led.led.acts c.args.self.now c.send.new.self c.send.ensures.led.led c.visit.ensures.led.told.0,
    (λ waits going. cc (c.in_err-all.ensures.ended, going)),
    search rules,
  );
}

pub returns-in_err-send_if-clause-led : goal.returns-in_err-send_if-clause-led
unfolding then_edge edge_then leads_on leads_at_edge
returns-in_err-send_if-clause-led g c = record {
  led = then_edge g.S.Supply.call g.S.Supply.begins g.S.Supply.ends g.S.Supply.visiting g.P.Place.slot_of g.T.Transport.counts g.T.Transport.given g.T.Transport.accepted c.args.self.now
      c.visit.new.self c.send_if.new.self c.args.supply.now c.visit.new.supply
      (edge_then g.S.Supply.call g.S.Supply.begins g.S.Supply.ends g.S.Supply.visiting g.P.Place.slot_of g.T.Transport.counts g.T.Transport.given g.T.Transport.accepted c.args.self.now
      c.send.new.self c.visit.new.self c.args.supply.now c.visit.new.supply c.send.ensures.led.led c.visit.ensures.led.led) c.send_if.ensures.led.led;
  told = (
    few_to_edge g.T.Transport.counts g.T.Transport.given g.T.Transport.accepted most_packets (c.send.ensures.led.led.acts ++ c.visit.ensures.led.led.acts) c.visit.new.self c.send_if.new.self c.send_if.ensures.led.led
        (few_from_edge g.T.Transport.counts g.T.Transport.given g.T.Transport.accepted most_packets c.visit.ensures.led.led.acts c.args.self.now c.send.new.self c.send.ensures.led.led c.visit.ensures.led.told.0),
    (λ waits going. cc (c.in_err-send_if.ensures.ended, going)),
    search rules,
  );
}

pub returns-in_err-conclude-clause-led : goal.returns-in_err-conclude-clause-led
unfolding then_edge edge_then leads_on leads_at_edge
returns-in_err-conclude-clause-led g c = record {
  led = then_edge g.S.Supply.call g.S.Supply.begins g.S.Supply.ends g.S.Supply.visiting g.P.Place.slot_of g.T.Transport.counts g.T.Transport.given g.T.Transport.accepted c.args.self.now
      c.send_if.new.self c.conclude.new.self c.args.supply.now c.visit.new.supply
      (then_edge g.S.Supply.call g.S.Supply.begins g.S.Supply.ends g.S.Supply.visiting g.P.Place.slot_of g.T.Transport.counts g.T.Transport.given g.T.Transport.accepted c.args.self.now
      c.visit.new.self c.send_if.new.self c.args.supply.now c.visit.new.supply
      (edge_then g.S.Supply.call g.S.Supply.begins g.S.Supply.ends g.S.Supply.visiting g.P.Place.slot_of g.T.Transport.counts g.T.Transport.given g.T.Transport.accepted c.args.self.now
      c.send.new.self c.visit.new.self c.args.supply.now c.visit.new.supply c.send.ensures.led.led c.visit.ensures.led.led) c.send_if.ensures.led.led) c.conclude.ensures.led;
  told = (
    few_to_edge g.T.Transport.counts g.T.Transport.given g.T.Transport.accepted most_packets ((c.send.ensures.led.led.acts ++ c.visit.ensures.led.led.acts) ++ c.send_if.ensures.led.led.acts) c.send_if.new.self c.conclude.new.self c.conclude.ensures.led
        (few_to_edge g.T.Transport.counts g.T.Transport.given g.T.Transport.accepted most_packets (c.send.ensures.led.led.acts ++ c.visit.ensures.led.led.acts) c.visit.new.self c.send_if.new.self c.send_if.ensures.led.led
        (few_from_edge g.T.Transport.counts g.T.Transport.given g.T.Transport.accepted most_packets c.visit.ensures.led.led.acts c.args.self.now c.send.new.self c.send.ensures.led.led c.visit.ensures.led.told.0)),
    (λ waits going. cc (c.in_err-conclude.ensures.ended, going)),
    search rules,
  );
}

pub returns-clause-led : goal.returns-clause-led
unfolding then_edge edge_then leads_on leads_at_edge
returns-clause-led g c = record {
  led = then_edge g.S.Supply.call g.S.Supply.begins g.S.Supply.ends g.S.Supply.visiting g.P.Place.slot_of g.T.Transport.counts g.T.Transport.given g.T.Transport.accepted c.args.self.now
      c.send_if.new.self c.conclude.new.self c.args.supply.now c.visit.new.supply
      (then_edge g.S.Supply.call g.S.Supply.begins g.S.Supply.ends g.S.Supply.visiting g.P.Place.slot_of g.T.Transport.counts g.T.Transport.given g.T.Transport.accepted c.args.self.now
      c.visit.new.self c.send_if.new.self c.args.supply.now c.visit.new.supply
      (edge_then g.S.Supply.call g.S.Supply.begins g.S.Supply.ends g.S.Supply.visiting g.P.Place.slot_of g.T.Transport.counts g.T.Transport.given g.T.Transport.accepted c.args.self.now
      c.send.new.self c.visit.new.self c.args.supply.now c.visit.new.supply c.send.ensures.led.led c.in_ok-all.ensures.led.led) c.send_if.ensures.led.led) c.conclude.ensures.led;
  told = (
    few_to_edge g.T.Transport.counts g.T.Transport.given g.T.Transport.accepted most_packets ((c.send.ensures.led.led.acts ++ c.in_ok-all.ensures.led.led.acts) ++ c.send_if.ensures.led.led.acts) c.send_if.new.self c.conclude.new.self c.conclude.ensures.led
        (few_to_edge g.T.Transport.counts g.T.Transport.given g.T.Transport.accepted most_packets (c.send.ensures.led.led.acts ++ c.in_ok-all.ensures.led.led.acts) c.visit.new.self c.send_if.new.self c.send_if.ensures.led.led
        (few_from_edge g.T.Transport.counts g.T.Transport.given g.T.Transport.accepted most_packets c.in_ok-all.ensures.led.led.acts c.args.self.now c.send.new.self c.send.ensures.led.led c.in_ok-all.ensures.led.told.0)),
    (λ waits going. begins_first ((c.send.ensures.led.led.acts ++ c.in_ok-all.ensures.led.led.acts) ++ c.send_if.ensures.led.led.acts) c.conclude.ensures.led.acts (begins_first (c.send.ensures.led.led.acts ++ c.in_ok-all.ensures.led.led.acts) c.send_if.ensures.led.led.acts
        (begins_first c.send.ensures.led.led.acts c.in_ok-all.ensures.led.led.acts (c.send.ensures.led.told.0 waits c.in_ok-send.ensures.sent)))),
    (λ reads. round_told c.in_ok-all.all c.visit.new.self c.send_if.new.self c.conclude.new.self c.send.ensures.led.led.acts c.in_ok-all.ensures.led.led.acts c.send_if.ensures.led.led.acts
        c.conclude.ensures.led.acts (c.in_ok-all.ensures.led.told.1 (c.reads.ensures ∙ reads)) c.send_if.ensures.led.told c.in_ok-send_if.ensures.sent c.in_ok-conclude.ensures.goes_on.0
        c.send_if.ensures.client (search rules)),
  );
}

pub returns-in_err-send-clause-idles : goal.returns-in_err-send-clause-idles
returns-in_err-send-clause-idles g c =
    idles_kept g.T.Transport.counts c.args.now c.args.self.now c.send.new.self c.send.ensures.idles

pub returns-in_err-all-clause-idles : goal.returns-in_err-all-clause-idles
returns-in_err-all-clause-idles g c =
    idles_before g.T.Transport.counts c.args.now c.args.self.now c.send.new.self c.visit.new.self c.send.ensures.idles c.visit.ensures.idles

pub returns-in_err-send_if-clause-idles : goal.returns-in_err-send_if-clause-idles
returns-in_err-send_if-clause-idles g c =
    idles_behind g.T.Transport.counts c.args.now c.args.self.now c.visit.new.self c.send_if.new.self
    (idles_before g.T.Transport.counts c.args.now c.args.self.now c.send.new.self c.visit.new.self c.send.ensures.idles c.visit.ensures.idles) c.send_if.ensures.idles

pub returns-in_err-conclude-clause-idles : goal.returns-in_err-conclude-clause-idles
returns-in_err-conclude-clause-idles g c =
    idles_behind g.T.Transport.counts c.args.now c.args.self.now c.send_if.new.self c.conclude.new.self
    (idles_behind g.T.Transport.counts c.args.now c.args.self.now c.visit.new.self c.send_if.new.self
    (idles_before g.T.Transport.counts c.args.now c.args.self.now c.send.new.self c.visit.new.self c.send.ensures.idles c.visit.ensures.idles) c.send_if.ensures.idles) c.conclude.ensures.idles

pub returns-clause-idles : goal.returns-clause-idles
returns-clause-idles g c =
    idles_behind g.T.Transport.counts c.args.now c.args.self.now c.send_if.new.self c.conclude.new.self
    (idles_behind g.T.Transport.counts c.args.now c.args.self.now c.visit.new.self c.send_if.new.self
    (idles_before g.T.Transport.counts c.args.now c.args.self.now c.send.new.self c.visit.new.self c.send.ensures.idles c.visit.ensures.idles) c.send_if.ensures.idles) c.conclude.ensures.idles

pub returns-clause-ticks : goal.returns-clause-ticks
returns-clause-ticks g c reads none =
    ticks_on c.args.now c.send.new.self c.visit.new.self c.send_if.new.self c.conclude.new.self c.in_ok-all.ensures.waits (λ waits. search rules)
    (λ waits. c.in_ok-all.ensures.ticks (c.reads.ensures ∙ reads) waits) c.in_ok-conclude.ensures.goes_on.0 c.send_if.ensures.client c.send_if.ensures.ticked (search rules) none
