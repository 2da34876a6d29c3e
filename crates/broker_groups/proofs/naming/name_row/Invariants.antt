-- So many places have the broker's name.
use Rattle.std.proofs.Common.{◌≡◌, ◌++◌, All}
use Rattle.std.specs.Vec.Iter.{into_iter_items}
use Rattle.broker_groups.specs.Brokers.{IsBrokerPlace}
use Rattle.broker_groups.proofs.naming.name_row.Given as goal

abbrev pub invariant-loop-place : goal.invariant-loop-place
invariant-loop-place g l = record {
  places : All (IsBrokerPlace g.B.Broker.group) (into_iter_items l.place-iterator);
  named : l.named.items ++ into_iter_items l.place-iterator ≡ l.initial.named.items ++ l.fn.row.items;
}
