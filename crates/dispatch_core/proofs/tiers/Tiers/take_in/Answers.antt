use Rattle.std.proofs.Common.{length, sym, ap, ◌∙◌, arith}
use Rattle.dispatch_core.specs.JobRuns.{BeginsBefore}
use Rattle.dispatch_core.specs.Merging.{merged}
use Rattle.dispatch_core.proofs.MergedLists.{merged-nil, merged_each, length-merged}
use Rattle.dispatch_core.proofs.MergedThree.{merged-assoc}
use Rattle.dispatch_core.proofs.tiers.Tiers.take_in.Goals as goal

pub settle-requires-clause-sorted : goal.settle-requires-clause-sorted
settle-requires-clause-sorted c = (merged_each BeginsBefore c.args.self.now.long.items c.args.self.now.short.items c.requires.sorted).1

pub returns-then-len-capacity-clause-same : goal.returns-then-len-capacity-clause-same
returns-then-len-capacity-clause-same c =
    let i = c.args.self.now in
    ap (merged i.long.items) c.settle.ensures.items ∙ sym (merged-assoc i.long.items i.short.items c.args.recent.now.items)

pub settle-requires-2-clause-sorted : goal.settle-requires-2-clause-sorted
settle-requires-2-clause-sorted c = (merged_each BeginsBefore c.args.self.now.long.items c.args.self.now.short.items c.requires.sorted).0

pub settle-requires-2-clause-recent_sorted : goal.settle-requires-2-clause-recent_sorted
settle-requires-2-clause-recent_sorted c = (merged_each BeginsBefore c.args.self.now.long.items c.args.self.now.short.items c.requires.sorted).1

pub settle-requires-else-len-capacity-2-clause-room : goal.settle-requires-else-len-capacity-2-clause-room
settle-requires-else-len-capacity-2-clause-room c =
    omega (arith, c.requires.room, c.settle-2.ensures.settled, ap length c.settle-2.ensures.items, length-merged c.args.self.now.long.items c.args.self.now.short.items)

pub returns-else-len-capacity-2-clause-same : goal.returns-else-len-capacity-2-clause-same
returns-else-len-capacity-2-clause-same c =
    let new = c.settle-else-len-capacity-2.new.settled.items in
    ap (merged new) c.settle-2.ensures.none ∙ merged-nil new ∙ c.settle-else-len-capacity-2.ensures.items ∙ ap (λ rs. merged rs c.args.recent.now.items) c.settle-2.ensures.items
