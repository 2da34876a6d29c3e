-- The ports of one group more were dealt.
use Rattle.std.proofs.Common.{ap, ◌∙◌, sym, length, arith}
use Rattle.std.specs.Prelude.{sum_by}
use Rattle.std.specs.Global.{Vec}
use Rattle.std.specs.Vec.Iter.{into_iter_items}
use Rattle.std.proofs.lemmas.List.Sums.{sum_by-cons}
use Rattle.group_queue.specs.Ports.{PortState}
use Rattle.broker_groups.specs.Naming.{worth_of_rows}
use Rattle.broker_groups.proofs.Dealing.{first_row, other_rows}
use Rattle.broker_groups.proofs.naming.take_ports.Goals as goal

pub take_row-requires-clause-row : goal.take_row-requires-clause-row
take_row-requires-clause-row g c =
    (first_row g.B.Broker.group c.args.workers c.loop-row.slot (into_iter_items c.loop-row.row-iterator) (into_iter_items c.next.new.self) c.in-Some.row c.loop-row.invariant.rows c.in-Some.ensures.steps.0).1

pub take_row-requires-clause-many : goal.take_row-requires-clause-many
take_row-requires-clause-many g c =
    c.loop-row.invariant.many
    ∙ sym (first_row g.B.Broker.group c.args.workers c.loop-row.slot (into_iter_items c.loop-row.row-iterator) (into_iter_items c.next.new.self) c.in-Some.row c.loop-row.invariant.rows c.in-Some.ensures.steps.0).0

pub loop-row-preserved : goal.loop-row-preserved
loop-row-preserved g c =
    let before = c.loop-row.invariant in
    let next = c.in-Some.ensures.steps.0 in
    let dealt = c.in_ok-hands-2.ensures in
    record {
      slot = omega (arith, before.slot, ap length next);
      hands = dealt.hands;
      many = dealt.many ∙ before.many;
      rows = other_rows g.B.Broker.group c.args.workers c.loop-row.slot (into_iter_items c.loop-row.row-iterator) (into_iter_items c.next.new.self) c.in-Some.row before.rows next;
      ports = λ worth. omega (
        arith,
        before.ports worth,
        dealt.ports worth,
        ap (worth_of_rows worth) next ∙ sum_by-cons (λ (row : Vec PortState). sum_by worth row.items) c.in-Some.row (into_iter_items c.next.new.self),
      );
    }
