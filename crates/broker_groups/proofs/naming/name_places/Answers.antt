-- The places of one group more have the broker's name.
use Rattle.std.proofs.Common.{subst, All}
use Rattle.std.specs.Global.{Vec}
use Rattle.std.specs.Vec.Iter.{into_iter_items}
use Rattle.std.proofs.lemmas.List.Elements.{All-tail}
use Rattle.group_queue.specs.Places.{PlaceState}
use Rattle.broker_groups.specs.Brokers.{IsBrokerPlace}
use Rattle.broker_groups.specs.Naming.{in_a_row}
use Rattle.broker_groups.proofs.Dealing.{row_more}
use Rattle.broker_groups.proofs.naming.name_places.Goals as goal

pub loop-row-preserved : goal.loop-row-preserved
loop-row-preserved g c =
    let before = c.loop-row.invariant in
    let next = c.in-Some.ensures.steps.0 in
    let P : Vec PlaceState → Type 0 = λ row. All (IsBrokerPlace g.B.Broker.group) row.items in
    record {
      rows = All-tail P _ _ (subst (All P) next before.rows);
      named = row_more c.loop-row.named.items c.name_row.new.named.items (in_a_row c.args.rows.items) (into_iter_items c.loop-row.row-iterator) (into_iter_items c.next.new.self) c.in-Some.row
          c.in_ok-name_row.ensures next before.named;
    }
