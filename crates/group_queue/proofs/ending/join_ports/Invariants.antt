-- The ports so far were taken in.
use Rattle.std.proofs.Common.{◌≡◌, All}
use Rattle.std.specs.Prelude.{map}
use Rattle.std.specs.Vec.Iter.{into_iter_items}
use Rattle.crossbeam_queue.specs.Passes.{view, IsPassOf}
use Rattle.group_queue.specs.Ports.{PortState}
use Rattle.group_queue.specs.Views.{with_entries}
use Rattle.group_queue.specs.Known.{port_entry}
use Rattle.group_queue.proofs.ending.join_ports.Given as goal

abbrev pub invariant-loop-port : goal.invariant-loop-port
invariant-loop-port g l = record {
  queue : IsPassOf l.queue l.pass;
  ports : All (λ (port : PortState). port.queue ≡ l.queue.table.shared.table_id) (into_iter_items l.port-iterator);
  all : with_entries (view l.pass) (map port_entry (into_iter_items l.port-iterator)) ≡ with_entries (view l.initial.pass) (map port_entry l.fn.ports.items);
}
