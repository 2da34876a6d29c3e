-- One place more has the broker's name.
use Rattle.std.proofs.Common.{◌++◌, subst, All}
use Rattle.std.specs.Vec.Iter.{into_iter_items}
use Rattle.std.proofs.lemmas.List.Elements.{All-tail}
use Rattle.broker_groups.specs.Brokers.{IsBrokerPlace}
use Rattle.broker_groups.proofs.Dealing.{one_more}
use Rattle.broker_groups.proofs.naming.name_row.Goals as goal

pub loop-place-preserved : goal.loop-place-preserved
loop-place-preserved g c =
    let before = c.loop-place.invariant in
    let next = c.in-Some.ensures.steps.0 in
    record {
      places = All-tail (IsBrokerPlace g.B.Broker.group) _ _ (subst (All (IsBrokerPlace g.B.Broker.group)) next before.places);
      named = one_more c.loop-place.named.items c.push.new.self.items (into_iter_items c.next.new.self) (into_iter_items c.loop-place.place-iterator) (c.args.named.now.items ++ c.args.row.items) c.in-Some.place
          c.in_ok-push.ensures.items next before.named;
    }
