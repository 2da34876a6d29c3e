-- So many groups were ended.
use Rattle.std.proofs.Common.{◌≡◌, ◌≤◌, ℕ, length, slice_get, Some, Result, vec_capacity}
use Rattle.std.specs.Global.{Vec}
use Rattle.std.specs.Vec.Iter.{into_iter_items, into_iter_len}
use Rattle.group_jobs.specs.Stamps.{Held}
use Rattle.group_jobs.specs.declared.report.Report.{Report}
use Rattle.group_queue.specs.declared.finish.Unfinished.{Unfinished}
use Rattle.group_queue.specs.Ports.{PortState}
use Rattle.group_queue.specs.Places.{PlaceState}
use Rattle.group_queue.specs.Finishing.{Finishes}
use Rattle.broker_groups.proofs.Finishing.{IsRest}
use Rattle.broker_groups.proofs.ending.finish_each.Given as goal

abbrev pub invariant-slots : goal.invariant-slots
invariant-slots g l = record {
  groups : IsRest l.fn.groups.items (length l.answers.items) (into_iter_items l.next_groups);
  ports : IsRest l.fn.ports.items (length l.answers.items) (into_iter_items l.next_ports);
  places : IsRest l.fn.places.items (length l.answers.items) (into_iter_items l.next_places);
  held : IsRest l.fn.held.items (length l.answers.items) (into_iter_items l.next_held);
  room : 8 ≤ vec_capacity l.answers;
  each : (slot : ℕ) (answer : Result Report (Unfinished _)) → slice_get l.answers.items slot ≡ Some answer → (its_ports : Vec PortState) (its_places : Vec PlaceState) (its_held : Vec Held)
      → slice_get l.fn.ports.items slot ≡ Some its_ports → slice_get l.fn.places.items slot ≡ Some its_places → slice_get l.fn.held.items slot ≡ Some its_held
      → Finishes (g.B.Broker.group slot) its_ports.items its_places.items its_held.items answer;
}

abbrev pub decreases-slots : goal.decreases-slots
decreases-slots g l = into_iter_len l.next_groups
