-- One worker's ports more have the broker's name.
use Rattle.std.proofs.Common.{List, arith}
use Rattle.std.specs.Prelude.{sum_by}
use Rattle.std.specs.Global.{Vec}
use Rattle.group_queue.specs.Ports.{PortState}
use Rattle.broker_groups.specs.Naming.{IsHand}
use Rattle.broker_groups.proofs.Dealing.{one_longer, popped, worth_more}
use Rattle.broker_groups.proofs.naming.name_hands.Goals as goal

pub invariant_of-push : goal.invariant_of-push
invariant_of-push g c =
    let hand = (popped (IsHand g.B.Broker.group 8) c.hands.hands.items c.pop.new.self.items c.in-Some.ports c.in-Some.ensures.items c.hands.invariant.hands).1 in
    record { all = hand.many; each = hand.each }

pub hands-preserved : goal.hands-preserved
hands-preserved g c =
    let before = c.hands.invariant in
    let hand = c.in-Some.ports in
    let less = one_longer c.pop.new.self.items c.hands.hands.items hand c.in-Some.ensures.items in
    let more = one_longer c.hands.named.items c.push.new.self.items hand.items c.in_ok-push.ensures.items in
    record {
      hands = (popped (IsHand g.B.Broker.group 8) c.hands.hands.items c.pop.new.self.items hand c.in-Some.ensures.items before.hands).0;
      many = omega (arith, before.many, less, more);
      ports = λ worth. omega (
        arith,
        before.ports worth,
        worth_more (λ (r : Vec PortState). sum_by worth r.items) c.pop.new.self.items c.hands.hands.items hand c.in-Some.ensures.items,
        worth_more (λ (all : List PortState). sum_by worth all) c.hands.named.items c.push.new.self.items hand.items c.in_ok-push.ensures.items,
      );
    }
