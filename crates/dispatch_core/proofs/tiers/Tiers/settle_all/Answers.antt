use Rattle.std.proofs.Common.{length, ap, arith}
use Rattle.dispatch_core.specs.JobRuns.{BeginsBefore}
use Rattle.dispatch_core.proofs.MergedLists.{merged_each, length-merged}
use Rattle.dispatch_core.proofs.tiers.Tiers.settle_all.Goals as goal

pub settle-requires-clause-sorted : goal.settle-requires-clause-sorted
settle-requires-clause-sorted c = (merged_each BeginsBefore c.args.self.now.long.items c.args.self.now.short.items c.requires.sorted).0

pub settle-requires-clause-recent_sorted : goal.settle-requires-clause-recent_sorted
settle-requires-clause-recent_sorted c = (merged_each BeginsBefore c.args.self.now.long.items c.args.self.now.short.items c.requires.sorted).1

pub settle-requires-2-clause-room : goal.settle-requires-2-clause-room
settle-requires-2-clause-room c = omega (arith, c.requires.room, c.settle.ensures.settled, ap length c.settle.ensures.items, length-merged c.args.self.now.long.items c.args.self.now.short.items)
