use Rattle.std.proofs.Common.{length, ap, arith, rules, vec_capacity}
use Rattle.dispatch_core.proofs.MergedLists.{length-merged}
use Rattle.dispatch_core.proofs.Added.{lengths_within}
use Rattle.dispatch_core.specs.Tiered.{both}
use Rattle.dispatch_core.proofs.runs.Runs.run_count.Goals as goal

pub overflow_add-result-2 : goal.overflow_add-result-2
overflow_add-result-2 c =
    let i = c.self.inside in
    search (rules, arith, length-merged i.older.long.items i.older.short.items, lengths_within (both i.older) i.recent.items (vec_capacity i.older.long) (vec_capacity i.recent) i.has_repeats c.self.invariant)

pub returns : goal.returns
returns c =
    let i = c.self.inside in
    omega (arith, c.len.ensures, c.len-2.ensures, c.len-3.ensures, ap (λ r. length r.runs) c.self.view_is, length-merged (both i.older) i.recent.items, length-merged i.older.long.items i.older.short.items)
