use Rattle.std.proofs.Common.{sym, subst}
use Rattle.dispatch_core.specs.JobRuns.{EachBefore, BeginsBefore}
use Rattle.dispatch_core.proofs.MergedLists.{merged_each}
use Rattle.dispatch_core.proofs.tiers.Tiers.places_of.Goals as goal

pub place_of-requires : goal.place_of-requires
place_of-requires c = subst (EachBefore BeginsBefore) (sym c.deref.ensures.value) (merged_each BeginsBefore c.args.self.now.long.items c.args.self.now.short.items c.requires).0

pub place_of-requires-2 : goal.place_of-requires-2
place_of-requires-2 c = subst (EachBefore BeginsBefore) (sym c.deref-2.ensures.value) (merged_each BeginsBefore c.args.self.now.long.items c.args.self.now.short.items c.requires).1
