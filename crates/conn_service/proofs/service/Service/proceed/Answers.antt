-- A Tick, where it is time, then what is left, then what comes, and the end of the stream.
use Rattle.std.proofs.Common.{◌++◌, rules, arith}
use Rattle.conn_service.specs.Services.{most_packets}
use Rattle.conn_service.proofs.Leading.{leads_on}
use Rattle.conn_service.proofs.Counting.{few_after, few_before, few_on, left_after, left_on}
use Rattle.conn_service.proofs.Advancing.{end_told, used_told}
use Rattle.conn_service.proofs.service.Service.proceed.Goals as goal

-- where something waits, the supply may be asked in front of the Tick
pub returns-in_err-tick_if-clause-led : goal.returns-in_err-tick_if-clause-led
unfolding leads_on
returns-in_err-tick_if-clause-led g c = record {
  led = leads_on g.S.Supply.call g.S.Supply.begins g.S.Supply.ends g.S.Supply.visiting g.P.Place.slot_of g.T.Transport.counts g.T.Transport.given g.T.Transport.accepted c.args.self.now
      c.args.self.now c.tick_if.new.self c.args.supply.now c.is_urgent-urgent.new.supply c.tick_if.new.supply c.is_urgent-urgent.ensures.led.led c.tick_if.ensures.led.led;
  told = (few_after most_packets c.is_urgent-urgent.ensures.led.led.acts c.tick_if.ensures.led.led.acts c.is_urgent-urgent.ensures.led.told (omega (arith, c.tick_if.ensures.led.told)), search rules);
}

pub returns-then-not-is_empty-clause-led : goal.returns-then-not-is_empty-clause-led
unfolding leads_on
returns-then-not-is_empty-clause-led g c = record {
  led = leads_on g.S.Supply.call g.S.Supply.begins g.S.Supply.ends g.S.Supply.visiting g.P.Place.slot_of g.T.Transport.counts g.T.Transport.given g.T.Transport.accepted c.args.self.now
      c.args.self.now c.tick_if.new.self c.args.supply.now c.is_urgent-urgent.new.supply c.tick_if.new.supply c.is_urgent-urgent.ensures.led.led c.tick_if.ensures.led.led;
  told = (few_after most_packets c.is_urgent-urgent.ensures.led.led.acts c.tick_if.ensures.led.led.acts c.is_urgent-urgent.ensures.led.told (omega (arith, c.tick_if.ensures.led.told)), (λ reads none. absurd (search rules)));
}

-- else a Tick, where it is time
pub returns-in_err-tick_if-2-clause-led : goal.returns-in_err-tick_if-2-clause-led
returns-in_err-tick_if-2-clause-led g c = record { led = c.tick_if-2.ensures.led.led; told = (omega (arith, c.tick_if-2.ensures.led.told), search rules) }

pub returns-in_err-step_each-clause-led : goal.returns-in_err-step_each-clause-led
unfolding leads_on
returns-in_err-step_each-clause-led g c = record {
  led = leads_on g.S.Supply.call g.S.Supply.begins g.S.Supply.ends g.S.Supply.visiting g.P.Place.slot_of g.T.Transport.counts g.T.Transport.given g.T.Transport.accepted c.args.self.now
      c.tick_if-2.new.self c.step_each.new.self c.args.supply.now c.tick_if-2.new.supply c.step_each.new.supply c.tick_if-2.ensures.led.led c.step_each.ensures.led.led;
  told = (few_after most_packets c.tick_if-2.ensures.led.led.acts c.step_each.ensures.led.led.acts c.tick_if-2.ensures.led.told c.step_each.ensures.led.told.0, search rules);
}

pub returns-then-not-branch-clause-led : goal.returns-then-not-branch-clause-led
unfolding leads_on
returns-then-not-branch-clause-led g c =
    let first = left_after most_packets c.step_each.new.left c.tick_if-2.ensures.led.led.acts c.in_ok-step_each.ensures.led.led.acts c.tick_if-2.ensures.led.told c.in_ok-step_each.ensures.led.told.1 in
    record {
      led = leads_on g.S.Supply.call g.S.Supply.begins g.S.Supply.ends g.S.Supply.visiting g.P.Place.slot_of g.T.Transport.counts g.T.Transport.given g.T.Transport.accepted c.args.self.now
          c.tick_if-2.new.self c.step_each.new.self c.args.supply.now c.tick_if-2.new.supply c.step_each.new.supply c.tick_if-2.ensures.led.led c.in_ok-step_each.ensures.led.led;
      told = (
        few_after most_packets c.tick_if-2.ensures.led.led.acts c.in_ok-step_each.ensures.led.led.acts c.tick_if-2.ensures.led.told c.in_ok-step_each.ensures.led.told.0,
        (λ reads. used_told c.step_each.new.self c.step_each.new.left (c.tick_if-2.ensures.led.led.acts ++ c.in_ok-step_each.ensures.led.led.acts) (c.in_ok-step_each.ensures.full (search rules)) first),
      );
    }

pub returns-in_err-read-clause-led : goal.returns-in_err-read-clause-led
unfolding leads_on
returns-in_err-read-clause-led g c =
    let first = left_after most_packets c.step_each.new.left c.tick_if-2.ensures.led.led.acts c.in_ok-step_each.ensures.led.led.acts c.tick_if-2.ensures.led.told c.in_ok-step_each.ensures.led.told.1 in
    record {
      led = leads_on g.S.Supply.call g.S.Supply.begins g.S.Supply.ends g.S.Supply.visiting g.P.Place.slot_of g.T.Transport.counts g.T.Transport.given g.T.Transport.accepted c.args.self.now
          c.step_each.new.self c.read.new.self c.args.supply.now c.step_each.new.supply c.read.new.supply
          (leads_on g.S.Supply.call g.S.Supply.begins g.S.Supply.ends g.S.Supply.visiting g.P.Place.slot_of g.T.Transport.counts g.T.Transport.given g.T.Transport.accepted c.args.self.now
          c.tick_if-2.new.self c.step_each.new.self c.args.supply.now c.tick_if-2.new.supply c.step_each.new.supply c.tick_if-2.ensures.led.led c.in_ok-step_each.ensures.led.led) c.read.ensures.led.led;
      told = (few_on most_packets c.step_each.new.left (c.tick_if-2.ensures.led.led.acts ++ c.in_ok-step_each.ensures.led.led.acts) c.read.ensures.led.led.acts first c.read.ensures.led.told.0.0, search rules);
    }

pub returns-then-not-branch-2-clause-led : goal.returns-then-not-branch-2-clause-led
unfolding leads_on
returns-then-not-branch-2-clause-led g c =
    let first = left_after most_packets c.step_each.new.left c.tick_if-2.ensures.led.led.acts c.in_ok-step_each.ensures.led.led.acts c.tick_if-2.ensures.led.told c.in_ok-step_each.ensures.led.told.1 in
    let both = left_on most_packets c.step_each.new.left c.read.new.left (c.tick_if-2.ensures.led.led.acts ++ c.in_ok-step_each.ensures.led.led.acts) c.in_ok-read.ensures.led.led.acts first c.in_ok-read.ensures.led.told.0.1 in
    record {
      led = leads_on g.S.Supply.call g.S.Supply.begins g.S.Supply.ends g.S.Supply.visiting g.P.Place.slot_of g.T.Transport.counts g.T.Transport.given g.T.Transport.accepted c.args.self.now
          c.step_each.new.self c.read.new.self c.args.supply.now c.step_each.new.supply c.read.new.supply
          (leads_on g.S.Supply.call g.S.Supply.begins g.S.Supply.ends g.S.Supply.visiting g.P.Place.slot_of g.T.Transport.counts g.T.Transport.given g.T.Transport.accepted c.args.self.now
          c.tick_if-2.new.self c.step_each.new.self c.args.supply.now c.tick_if-2.new.supply c.step_each.new.supply c.tick_if-2.ensures.led.led c.in_ok-step_each.ensures.led.led) c.in_ok-read.ensures.led.led;
      told = (
        few_on most_packets c.step_each.new.left (c.tick_if-2.ensures.led.led.acts ++ c.in_ok-step_each.ensures.led.led.acts) c.in_ok-read.ensures.led.led.acts first c.in_ok-read.ensures.led.told.0.0,
        (λ reads. used_told c.read.new.self c.read.new.left ((c.tick_if-2.ensures.led.led.acts ++ c.in_ok-step_each.ensures.led.led.acts) ++ c.in_ok-read.ensures.led.led.acts) (c.in_ok-read.ensures.full (search rules)) both),
      );
    }

pub returns-in_err-end_input-clause-led : goal.returns-in_err-end_input-clause-led
unfolding leads_on
returns-in_err-end_input-clause-led g c =
    let first = left_after most_packets c.step_each.new.left c.tick_if-2.ensures.led.led.acts c.in_ok-step_each.ensures.led.led.acts c.tick_if-2.ensures.led.told c.in_ok-step_each.ensures.led.told.1 in
    let both = few_on most_packets c.step_each.new.left (c.tick_if-2.ensures.led.led.acts ++ c.in_ok-step_each.ensures.led.led.acts) c.in_ok-read.ensures.led.led.acts first c.in_ok-read.ensures.led.told.0.0 in
    record {
      led = leads_on g.S.Supply.call g.S.Supply.begins g.S.Supply.ends g.S.Supply.visiting g.P.Place.slot_of g.T.Transport.counts g.T.Transport.given g.T.Transport.accepted c.args.self.now
          c.read.new.self c.end_input.new.self c.args.supply.now c.read.new.supply c.end_input.new.supply
          (leads_on g.S.Supply.call g.S.Supply.begins g.S.Supply.ends g.S.Supply.visiting g.P.Place.slot_of g.T.Transport.counts g.T.Transport.given g.T.Transport.accepted c.args.self.now
          c.step_each.new.self c.read.new.self c.args.supply.now c.step_each.new.supply c.read.new.supply
          (leads_on g.S.Supply.call g.S.Supply.begins g.S.Supply.ends g.S.Supply.visiting g.P.Place.slot_of g.T.Transport.counts g.T.Transport.given g.T.Transport.accepted c.args.self.now
          c.tick_if-2.new.self c.step_each.new.self c.args.supply.now c.tick_if-2.new.supply c.step_each.new.supply c.tick_if-2.ensures.led.led c.in_ok-step_each.ensures.led.led) c.in_ok-read.ensures.led.led)
          c.end_input.ensures.led.led;
      told = (few_before most_packets ((c.tick_if-2.ensures.led.led.acts ++ c.in_ok-step_each.ensures.led.led.acts) ++ c.in_ok-read.ensures.led.led.acts) c.end_input.ensures.led.led.acts both c.end_input.ensures.led.told, search rules);
    }

pub returns-clause-led : goal.returns-clause-led
unfolding leads_on
returns-clause-led g c =
    let first = left_after most_packets c.step_each.new.left c.tick_if-2.ensures.led.led.acts c.in_ok-step_each.ensures.led.led.acts c.tick_if-2.ensures.led.told c.in_ok-step_each.ensures.led.told.1 in
    let both = few_on most_packets c.step_each.new.left (c.tick_if-2.ensures.led.led.acts ++ c.in_ok-step_each.ensures.led.led.acts) c.in_ok-read.ensures.led.led.acts first c.in_ok-read.ensures.led.told.0.0 in
    record {
      led = leads_on g.S.Supply.call g.S.Supply.begins g.S.Supply.ends g.S.Supply.visiting g.P.Place.slot_of g.T.Transport.counts g.T.Transport.given g.T.Transport.accepted c.args.self.now
          c.read.new.self c.end_input.new.self c.args.supply.now c.read.new.supply c.end_input.new.supply
          (leads_on g.S.Supply.call g.S.Supply.begins g.S.Supply.ends g.S.Supply.visiting g.P.Place.slot_of g.T.Transport.counts g.T.Transport.given g.T.Transport.accepted c.args.self.now
          c.step_each.new.self c.read.new.self c.args.supply.now c.step_each.new.supply c.read.new.supply
          (leads_on g.S.Supply.call g.S.Supply.begins g.S.Supply.ends g.S.Supply.visiting g.P.Place.slot_of g.T.Transport.counts g.T.Transport.given g.T.Transport.accepted c.args.self.now
          c.tick_if-2.new.self c.step_each.new.self c.args.supply.now c.tick_if-2.new.supply c.step_each.new.supply c.tick_if-2.ensures.led.led c.in_ok-step_each.ensures.led.led) c.in_ok-read.ensures.led.led)
          c.end_input.ensures.led.led;
      told = (
        few_before most_packets ((c.tick_if-2.ensures.led.led.acts ++ c.in_ok-step_each.ensures.led.led.acts) ++ c.in_ok-read.ensures.led.led.acts) c.end_input.ensures.led.led.acts both c.end_input.ensures.led.told,
        (λ reads. end_told c.read.new.self c.end_input.new.self (c.tick_if-2.ensures.led.led.acts ++ c.in_ok-step_each.ensures.led.led.acts) c.in_ok-read.ensures.led.led.acts c.end_input.ensures.led.led.acts
            (c.in_ok-read.ensures.led.told.1 reads (search rules)) c.in_ok-end_input.ensures.over),
      );
    }
