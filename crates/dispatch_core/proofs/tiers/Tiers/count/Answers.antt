use Rattle.std.proofs.Common.{◌++◌, length, All, sym, ap, subst, arith, length-append}
use Rattle.std.proofs.lemmas.List.Sorted.{length_permutation}
use Rattle.dispatch_core.specs.JobRuns.{jobs_of, IsFilled}
use Rattle.dispatch_core.specs.Merging.{merged}
use Rattle.dispatch_core.proofs.MergedLists.{jobs_of-merged, merged_all}
use Rattle.dispatch_core.proofs.tiers.Tiers.count.Goals as goal

pub count-requires : goal.count-requires
count-requires c = subst (All IsFilled) (sym c.deref.ensures.value) (merged_all IsFilled c.args.self.now.long.items c.args.self.now.short.items c.requires).0

pub count-requires-2 : goal.count-requires-2
count-requires-2 c = subst (All IsFilled) (sym c.deref-2.ensures.value) (merged_all IsFilled c.args.self.now.long.items c.args.self.now.short.items c.requires).1

pub returns-clause-jobs : goal.returns-clause-jobs
returns-clause-jobs c =
    let i = c.args.self.now in
    let all = length_permutation (jobs_of i.long.items ++ jobs_of i.short.items) (jobs_of (merged i.long.items i.short.items)) (jobs_of-merged i.long.items i.short.items) in
    let first = ap (λ rs. length (jobs_of rs)) c.deref.ensures.value in
    let second = ap (λ rs. length (jobs_of rs)) c.deref-2.ensures.value in
    omega (arith, all, length-append (jobs_of i.long.items) (jobs_of i.short.items), c.count.ensures.jobs, c.count-2.ensures.jobs)
