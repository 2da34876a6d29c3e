-- The envelopes so far were sorted.
use Rattle.std.specs.Vec.Iter.{into_iter_items, into_iter_len}
use Rattle.broker_groups.specs.Sorting.{AreSorted}
use Rattle.broker_groups.specs.Endings.{held_slot, IsAny}
use Rattle.broker_groups.proofs.sorting.sort_held.Given as goal

abbrev pub invariant-held : goal.invariant-held
invariant-held l = AreSorted IsAny held_slot 9 l.fn.held.items (into_iter_items l.rest) l.rows.items

abbrev pub decreases-held : goal.decreases-held
decreases-held l = into_iter_len l.rest
