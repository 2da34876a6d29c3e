use Rattle.std.proofs.Common.{◌+◌, Some, sym, subst}
use Rattle.dispatch_core.specs.Merging.{merged, TakesBehind}
use Rattle.dispatch_core.specs.Tiered.{both, IsCut}
use Rattle.dispatch_core.proofs.JoinedLists.{shortened}
use Rattle.dispatch_core.proofs.Tiered.{cut_of, still_cut, taken_first, taken_else}
use Rattle.dispatch_core.proofs.tiers.Tiers.take_behind.Goals as goal

pub returns-in-Some-clause-taken : goal.returns-in-Some-clause-taken
returns-in-Some-clause-taken c =
    let i = c.args.self.now in
    let at = c.args.places in
    taken_first i.long.items i.short.items c.args.job at.long at.short c.requires.places.long c.requires.places.short c.in-Some.last c.take_behind.new.runs.items c.in-Some.ensures.taken

pub returns-in-Some-clause-cut : goal.returns-in-Some-clause-cut
returns-in-Some-clause-cut c =
    let i = c.args.self.now in
    let at = c.args.places in
    let new = c.take_behind.new.runs.items in
    record {
      long = still_cut i.long.items new c.args.job at.long c.requires.places.long (shortened i.long.items new at.long c.args.job (Some c.in-Some.last) c.requires.places.long c.in-Some.ensures.taken);
      short = cut_of i.short.items c.args.job at.short c.requires.places.short;
    }

pub returns-in-None-clause-taken : goal.returns-in-None-clause-taken
returns-in-None-clause-taken c =
    let i = c.args.self.now in
    let at = c.args.places in
    let result = c.take_behind-in-None.result in
    let new = c.take_behind-in-None.new.runs.items in
    subst (λ rs. TakesBehind (both i) (at.long + at.short) c.args.job result (merged rs new)) (sym c.in-None.ensures.taken.1)
    (taken_else i.long.items i.short.items c.args.job at.long at.short c.requires.places.long c.requires.places.short c.in-None.ensures.taken.0 c.requires.filled c.requires.apart result new c.take_behind-in-None.ensures.taken)

pub returns-in-None-clause-cut : goal.returns-in-None-clause-cut
returns-in-None-clause-cut c =
    let i = c.args.self.now in
    let at = c.args.places in
    let new = c.take_behind-in-None.new.runs.items in
    record {
      long = subst (λ rs. IsCut rs c.args.job at.long) (sym c.in-None.ensures.taken.1) (cut_of i.long.items c.args.job at.long c.requires.places.long);
      short = still_cut i.short.items new c.args.job at.short c.requires.places.short (shortened i.short.items new at.short c.args.job c.take_behind-in-None.result c.requires.places.short c.take_behind-in-None.ensures.taken);
    }
