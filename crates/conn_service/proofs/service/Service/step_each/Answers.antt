-- One step more.
use Rattle.std.proofs.Common.{refl, rules, arith}
use Rattle.conn_service.proofs.Leading.{leads_nothing, leads_on}
use Rattle.conn_service.proofs.Counting.{few_on, left_on}
use Rattle.conn_service.proofs.service.Service.step_each.Goals as goal

pub returns-then-has_ended-clause-led : goal.returns-then-has_ended-clause-led
unfolding leads_nothing
returns-then-has_ended-clause-led g c = record {
  led = leads_nothing g.S.Supply.call g.S.Supply.begins g.S.Supply.ends g.S.Supply.visiting g.P.Place.slot_of g.T.Transport.counts g.T.Transport.given g.T.Transport.accepted c.args.self.now c.args.self.now c.args.supply.now c.args.supply.now refl refl;
  told = (omega arith, omega arith);
}

pub packets-init : goal.packets-init
unfolding leads_nothing
packets-init g c = record {
  led = record {
    led = leads_nothing g.S.Supply.call g.S.Supply.begins g.S.Supply.ends g.S.Supply.visiting g.P.Place.slot_of g.T.Transport.counts g.T.Transport.given g.T.Transport.accepted c.args.self.now c.args.self.now c.args.supply.now c.args.supply.now refl refl;
    told = omega arith;
  };
  going = search rules;
  not_over = search rules;
  stays = search rules;
  visiting = search rules;
}

pub returns-in_err-step_front-clause-led : goal.returns-in_err-step_front-clause-led
unfolding leads_on
returns-in_err-step_front-clause-led g c = record {
  led = leads_on g.S.Supply.call g.S.Supply.begins g.S.Supply.ends g.S.Supply.visiting g.P.Place.slot_of g.T.Transport.counts g.T.Transport.given g.T.Transport.accepted c.args.self.now c.packets.self
      c.step_front.new.self c.args.supply.now c.packets.supply c.step_front.new.supply c.packets.invariant.led.led c.step_front.ensures.led.led;
  told = (few_on c.args.left.now c.packets.left c.packets.invariant.led.led.acts c.step_front.ensures.led.led.acts c.packets.invariant.led.told c.step_front.ensures.led.told.0, search rules);
}

pub returns-then-not-branch-clause-led : goal.returns-then-not-branch-clause-led
unfolding leads_on
returns-then-not-branch-clause-led g c = record {
  led = leads_on g.S.Supply.call g.S.Supply.begins g.S.Supply.ends g.S.Supply.visiting g.P.Place.slot_of g.T.Transport.counts g.T.Transport.given g.T.Transport.accepted c.args.self.now c.packets.self
      c.step_front.new.self c.args.supply.now c.packets.supply c.step_front.new.supply c.packets.invariant.led.led c.in_ok-step_front.ensures.led.led;
  told = (
    few_on c.args.left.now c.packets.left c.packets.invariant.led.led.acts c.in_ok-step_front.ensures.led.led.acts c.packets.invariant.led.told c.in_ok-step_front.ensures.led.told.0,
    left_on c.args.left.now c.packets.left c.step_front.new.left c.packets.invariant.led.led.acts c.in_ok-step_front.ensures.led.led.acts c.packets.invariant.led.told c.in_ok-step_front.ensures.led.told.1,
  );
}

pub returns-after-packets-clause-led : goal.returns-after-packets-clause-led
returns-after-packets-clause-led g c = record {
  led = c.packets.invariant.led.led;
  told = (omega (arith, c.packets.invariant.led.told), c.packets.invariant.led.told);
}

pub returns-else-len-lt-WRITE_ROOM-clause-led : goal.returns-else-len-lt-WRITE_ROOM-clause-led
returns-else-len-lt-WRITE_ROOM-clause-led g c = record {
  led = c.packets.invariant.led.led;
  told = (omega (arith, c.packets.invariant.led.told), c.packets.invariant.led.told);
}

pub packets-preserved : goal.packets-preserved
unfolding leads_on
packets-preserved g c = record {
  led = record {
    led = leads_on g.S.Supply.call g.S.Supply.begins g.S.Supply.ends g.S.Supply.visiting g.P.Place.slot_of g.T.Transport.counts g.T.Transport.given g.T.Transport.accepted c.args.self.now c.packets.self
        c.step_front.new.self c.args.supply.now c.packets.supply c.step_front.new.supply c.packets.invariant.led.led c.in_ok-step_front.ensures.led.led;
    told = left_on c.args.left.now c.packets.left c.step_front.new.left c.packets.invariant.led.led.acts c.in_ok-step_front.ensures.led.led.acts c.packets.invariant.led.told c.in_ok-step_front.ensures.led.told.1;
  };
  going = search rules;
  not_over = search rules;
  stays = search rules;
  visiting = search rules;
}
