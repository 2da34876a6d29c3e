use Rattle.std.proofs.Common.{vec_capacity, arith}
use Rattle.dispatch_core.proofs.MergedLists.{length-merged}
use Rattle.dispatch_core.proofs.Added.{lengths_within}
use Rattle.dispatch_core.specs.Tiered.{both}
use Rattle.dispatch_core.proofs.runs.Runs.spare.Goals as goal

pub overflow_sub-result : goal.overflow_sub-result
overflow_sub-result c =
    let i = c.self.inside in
    omega (arith, length-merged i.older.long.items i.older.short.items, lengths_within (both i.older) i.recent.items (vec_capacity i.older.long) (vec_capacity i.recent) i.has_repeats c.self.invariant)

pub overflow_add-result-2 : goal.overflow_add-result-2
overflow_add-result-2 c =
    let i = c.self.inside in
    omega (arith, length-merged i.older.long.items i.older.short.items, lengths_within (both i.older) i.recent.items (vec_capacity i.older.long) (vec_capacity i.recent) i.has_repeats c.self.invariant, c.capacity.ensures)
