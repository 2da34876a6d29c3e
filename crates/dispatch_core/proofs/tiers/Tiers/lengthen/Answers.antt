use Rattle.std.proofs.Common.{◌+◌, take, All, sym, subst}
use Rattle.dispatch_core.specs.JobRuns.{IsFilled}
use Rattle.dispatch_core.specs.Merging.{merged, Lengthens}
use Rattle.dispatch_core.specs.Tiered.{both}
use Rattle.dispatch_core.proofs.MergedLists.{merged_all}
use Rattle.dispatch_core.proofs.Tiered.{take_both, lengthened_first, lengthened_else}
use Rattle.dispatch_core.proofs.tiers.Tiers.lengthen.Goals as goal

pub lengthen-requires-clause-filled : goal.lengthen-requires-clause-filled
lengthen-requires-clause-filled c =
    let i = c.args.self.now in
    let at = c.args.places in
    (merged_all IsFilled (take at.long i.long.items) (take at.short i.short.items)
    (subst (All IsFilled) (take_both i.long.items i.short.items c.args.job at.long at.short c.requires.cut.long c.requires.cut.short) c.requires.filled)).0

pub lengthen-requires-else-lengthen-clause-filled : goal.lengthen-requires-else-lengthen-clause-filled
lengthen-requires-else-lengthen-clause-filled c =
    let i = c.args.self.now in
    let at = c.args.places in
    (merged_all IsFilled (take at.long i.long.items) (take at.short i.short.items)
    (subst (All IsFilled) (take_both i.long.items i.short.items c.args.job at.long at.short c.requires.cut.long c.requires.cut.short) c.requires.filled)).1

pub returns-then-lengthen-clause-lengthened : goal.returns-then-lengthen-clause-lengthened
returns-then-lengthen-clause-lengthened c =
    let i = c.args.self.now in
    let at = c.args.places in
    subst (λ b. Lengthens (both i) (at.long + at.short) c.args.job c.args.last b (merged c.lengthen.new.runs.items i.short.items)) (sym c.if-lengthen.true)
    (lengthened_first i.long.items i.short.items c.args.job at.long at.short c.requires.cut.long c.requires.cut.short c.requires.filled c.requires.apart c.args.last c.lengthen.new.runs.items c.if-lengthen.ensures.lengthened)

pub returns-else-lengthen-clause-lengthened : goal.returns-else-lengthen-clause-lengthened
returns-else-lengthen-clause-lengthened c =
    let i = c.args.self.now in
    let at = c.args.places in
    subst (λ rs. Lengthens (both i) (at.long + at.short) c.args.job c.args.last c.lengthen-else-lengthen.result (merged rs c.lengthen-else-lengthen.new.runs.items)) (sym c.if-lengthen.ensures.lengthened.1)
    (lengthened_else i.long.items i.short.items c.args.job at.long at.short c.requires.cut.long c.requires.cut.short c.requires.filled c.requires.apart c.args.last c.if-lengthen.ensures.lengthened.0 c.lengthen-else-lengthen.result c.lengthen-else-lengthen.new.runs.items c.lengthen-else-lengthen.ensures.lengthened)
