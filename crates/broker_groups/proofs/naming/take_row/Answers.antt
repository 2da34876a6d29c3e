-- One worker more has a port of this group.
use Rattle.std.proofs.Common.{◌+◌, arith}
use Rattle.std.specs.Prelude.{sum_by}
use Rattle.std.specs.Global.{Vec}
use Rattle.group_queue.specs.Ports.{PortState}
use Rattle.broker_groups.specs.Brokers.{IsBrokerPort}
use Rattle.broker_groups.specs.Naming.{IsHand}
use Rattle.broker_groups.proofs.Dealing.{all_more, hand_more, one_longer, popped, worth_more}
use Rattle.broker_groups.proofs.naming.take_row.Goals as goal

pub hands-preserved : goal.hands-preserved
hands-preserved g c =
    let before = c.hands.invariant in
    let group = g.B.Broker.group in
    let hand = c.in-Some.hand in
    let port = c.in-Some-pop.port in
    let hands = popped (IsHand group c.args.slot) c.hands.hands.items c.pop.new.self.items hand c.in-Some.ensures.items before.hands in
    let row = popped (IsBrokerPort group c.args.slot) c.hands.row.items c.pop-in-Some.new.self.items port c.in-Some-pop.ensures.items before.row in
    let less = one_longer c.pop.new.self.items c.hands.hands.items hand c.in-Some.ensures.items in
    let fewer = one_longer c.pop-in-Some.new.self.items c.hands.row.items port c.in-Some-pop.ensures.items in
    let more = one_longer c.hands.dealt.items c.push-in-Some.new.self.items c.push.new.self c.in_ok-push-2.ensures.items in
    record {
      hands = hands.0;
      row = row.0;
      dealt = all_more (IsHand group (c.args.slot + 1)) c.hands.dealt.items c.push-in-Some.new.self.items c.push.new.self c.in_ok-push-2.ensures.items before.dealt
          (hand_more group c.args.slot hand c.push.new.self port hands.1 row.1 c.in_ok-push.ensures.items);
      left = omega (arith, before.left, less, fewer);
      many = omega (arith, before.many, less, more);
      ports = λ worth. omega (
        arith,
        before.ports worth,
        worth_more (λ (r : Vec PortState). sum_by worth r.items) c.hands.dealt.items c.push-in-Some.new.self.items c.push.new.self c.in_ok-push-2.ensures.items,
        worth_more (λ (r : Vec PortState). sum_by worth r.items) c.pop.new.self.items c.hands.hands.items hand c.in-Some.ensures.items,
        worth_more worth c.pop-in-Some.new.self.items c.hands.row.items port c.in-Some-pop.ensures.items,
        worth_more worth hand.items c.push.new.self.items port c.in_ok-push.ensures.items,
      );
    }
