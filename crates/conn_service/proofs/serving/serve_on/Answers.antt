-- One round more.
use Rattle.std.proofs.Common.{[], ◌∷◌, ◌++◌, arith}
use Rattle.conn_service.proofs.Leading.{rounds_on}
use Rattle.conn_service.proofs.serving.serve_on.Goals as goal

pub returns-in-Ended-clause-served : goal.returns-in-Ended-clause-served
returns-in-Ended-clause-served g c = record {
  last = c.round.new.self;
  moments = c.rounds.invariant.moments ++ c.now-now.result ∷ [];
  led = rounds_on g.S.Supply.call g.S.Supply.begins g.S.Supply.ends g.S.Supply.visiting g.P.Place.slot_of g.T.Transport.counts g.T.Transport.given g.T.Transport.accepted c.rounds.invariant.moments c.now-now.result c.args.service
      c.rounds.service c.round.new.self c.args.supply.now c.rounds.supply c.round.new.supply c.rounds.invariant.led c.round.ensures.led.made;
  ending = c.in-Ended.ensures.told.0;
  over = c.in-Ended.ensures.told.1;
  left = c.end.ensures;
}

pub returns-then-is_refused-clause-served : goal.returns-then-is_refused-clause-served
returns-then-is_refused-clause-served g c = record {
  last = c.stall.new.self;
  moments = (c.rounds.invariant.moments ++ c.now-now.result ∷ []) ++ c.now-now.result ∷ [];
  led = rounds_on g.S.Supply.call g.S.Supply.begins g.S.Supply.ends g.S.Supply.visiting g.P.Place.slot_of g.T.Transport.counts g.T.Transport.given g.T.Transport.accepted (c.rounds.invariant.moments ++ c.now-now.result ∷ []) c.now-now.result c.args.service
      c.round.new.self c.stall.new.self c.args.supply.now c.round.new.supply c.stall.new.supply
      (rounds_on g.S.Supply.call g.S.Supply.begins g.S.Supply.ends g.S.Supply.visiting g.P.Place.slot_of g.T.Transport.counts g.T.Transport.given g.T.Transport.accepted c.rounds.invariant.moments c.now-now.result c.args.service
      c.rounds.service c.round.new.self c.args.supply.now c.rounds.supply c.round.new.supply c.rounds.invariant.led c.round.ensures.led.made)
      (record { led = c.stall.ensures.led.led; asks = λ waits going. cc (c.stall.ensures.ended, going); few = omega (arith, c.stall.ensures.led.told) });
  ending = c.stall.ensures.ended;
  over = c.stall.ensures.over;
  left = c.end-then-is_refused.ensures;
}

pub rounds-preserved-else-is_refused : goal.rounds-preserved-else-is_refused
rounds-preserved-else-is_refused g c = record {
  moments = c.rounds.invariant.moments ++ c.now-now.result ∷ [];
  led = rounds_on g.S.Supply.call g.S.Supply.begins g.S.Supply.ends g.S.Supply.visiting g.P.Place.slot_of g.T.Transport.counts g.T.Transport.given g.T.Transport.accepted c.rounds.invariant.moments c.now-now.result c.args.service
      c.rounds.service c.round.new.self c.args.supply.now c.rounds.supply c.round.new.supply c.rounds.invariant.led c.round.ensures.led.made;
  going = c.in-Writing.ensures.told.0;
}

pub rounds-preserved-in-More : goal.rounds-preserved-in-More
rounds-preserved-in-More g c = record {
  moments = c.rounds.invariant.moments ++ c.now-now.result ∷ [];
  led = rounds_on g.S.Supply.call g.S.Supply.begins g.S.Supply.ends g.S.Supply.visiting g.P.Place.slot_of g.T.Transport.counts g.T.Transport.given g.T.Transport.accepted c.rounds.invariant.moments c.now-now.result c.args.service
      c.rounds.service c.round.new.self c.args.supply.now c.rounds.supply c.round.new.supply c.rounds.invariant.led c.round.ensures.led.made;
  going = c.in-More.ensures.told.0;
}

pub rounds-preserved-in-Reading : goal.rounds-preserved-in-Reading
rounds-preserved-in-Reading g c = record {
  moments = c.rounds.invariant.moments ++ c.now-now.result ∷ [];
  led = rounds_on g.S.Supply.call g.S.Supply.begins g.S.Supply.ends g.S.Supply.visiting g.P.Place.slot_of g.T.Transport.counts g.T.Transport.given g.T.Transport.accepted c.rounds.invariant.moments c.now-now.result c.args.service
      c.rounds.service c.round.new.self c.args.supply.now c.rounds.supply c.round.new.supply c.rounds.invariant.led c.round.ensures.led.made;
  going = c.in-Reading.ensures.told.0;
}

pub rounds-preserved : goal.rounds-preserved
rounds-preserved g c = record {
  moments = c.rounds.invariant.moments ++ c.now-now.result ∷ [];
  led = rounds_on g.S.Supply.call g.S.Supply.begins g.S.Supply.ends g.S.Supply.visiting g.P.Place.slot_of g.T.Transport.counts g.T.Transport.given g.T.Transport.accepted c.rounds.invariant.moments c.now-now.result c.args.service
      c.rounds.service c.round.new.self c.args.supply.now c.rounds.supply c.round.new.supply c.rounds.invariant.led c.round.ensures.led.made;
  going = c.in-Waiting.ensures.told.0;
}
