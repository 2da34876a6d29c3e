-- A round that ends it: where its last step is missing, it is given up.
use Rattle.std.proofs.Common.{rules}
use Rattle.conn_service.specs.Services.{most_packets}
use Rattle.conn_service.proofs.Leading.{leads_on}
use Rattle.conn_service.proofs.Rounds.{idles_behind}
use Rattle.conn_service.proofs.Counting.{few_before}
use Rattle.conn_service.proofs.Advancing.{told_more}
use Rattle.conn_service.proofs.Drained.{short_since}
use Rattle.conn_service.proofs.service.Service.round.Goals as goal

pub returns-in-Err-clause-led : goal.returns-in-Err-clause-led
unfolding leads_on
returns-in-Err-clause-led g c = record {
  made = record {
    led = leads_on g.S.Supply.call g.S.Supply.begins g.S.Supply.ends g.S.Supply.visiting g.P.Place.slot_of g.T.Transport.counts g.T.Transport.given g.T.Transport.accepted c.args.self.now
        c.go_on.new.self c.give_up.new.self c.args.supply.now c.go_on.new.supply c.give_up.new.supply c.go_on.ensures.led.led c.give_up.ensures.led.led;
    asks = λ waits going. cc (c.in-Err.ensures.ended, c.give_up.ensures.ending, going);
    few = few_before most_packets c.go_on.ensures.led.led.acts c.give_up.ensures.led.led.acts c.go_on.ensures.led.told.0 c.give_up.ensures.led.told;
  };
  more = λ reads is. cc is;
  drained = λ reads is. cc is;
}

pub returns-in-Err-clause-idles : goal.returns-in-Err-clause-idles
returns-in-Err-clause-idles g c = idles_behind g.T.Transport.counts c.args.now c.args.self.now c.go_on.new.self c.give_up.new.self c.go_on.ensures.idles (search rules)

pub returns-in-Ok-clause-led : goal.returns-in-Ok-clause-led
returns-in-Ok-clause-led g c = record {
  made = record { led = c.in-Ok.ensures.led.led; asks = c.in-Ok.ensures.led.told.1; few = c.in-Ok.ensures.led.told.0 };
  more = λ reads is. told_more c.in-Ok.all c.go_on.new.self c.in-Ok.ensures.led.led.acts (c.waits_for.ensures.more is).0 (c.waits_for.ensures.more is).1 (c.in-Ok.ensures.led.told.2 reads).0;
  drained = λ reads is. short_since g.S.Supply.call g.S.Supply.begins g.S.Supply.ends g.S.Supply.visiting g.P.Place.slot_of g.T.Transport.counts g.T.Transport.given g.T.Transport.accepted c.in-Ok.ensures.led.led.acts
      c.args.self.now c.go_on.new.self c.args.supply.now c.go_on.new.supply c.in-Ok.ensures.led.led.does ((c.in-Ok.ensures.led.told.2 reads).1 (search rules)) (search rules);
}
