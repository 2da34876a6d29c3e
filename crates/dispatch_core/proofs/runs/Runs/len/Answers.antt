use Rattle.std.proofs.Common.{◌++◌, length, vec_capacity, All, sym, ap, subst, arith, length-append}
use Rattle.std.proofs.lemmas.List.Sorted.{length_permutation}
use Rattle.dispatch_core.specs.JobRuns.{jobs_of, IsFilled}
use Rattle.dispatch_core.specs.Merging.{merged}
use Rattle.dispatch_core.proofs.MergedLists.{jobs_of-merged}
use Rattle.dispatch_core.proofs.Added.{filled_settled, filled_recent}
use Rattle.dispatch_core.specs.Tiered.{both}
use Rattle.dispatch_core.proofs.runs.Runs.len.Goals as goal

pub count-requires : goal.count-requires
count-requires c =
    let i = c.self.inside in
    (filled_settled (both i.older) i.recent.items (vec_capacity i.older.long) (vec_capacity i.recent) i.has_repeats c.self.invariant)

pub count-requires-2 : goal.count-requires-2
count-requires-2 c =
    let i = c.self.inside in
    subst (All IsFilled) (sym c.deref.ensures.value) (filled_recent (both i.older) i.recent.items (vec_capacity i.older.long) (vec_capacity i.recent) i.has_repeats c.self.invariant)

pub returns : goal.returns
returns c =
    let i = c.self.inside in
    let all = length_permutation (jobs_of (both i.older) ++ jobs_of i.recent.items) (jobs_of (merged (both i.older) i.recent.items)) (jobs_of-merged (both i.older) i.recent.items) in
    let second = ap (λ rs. length (jobs_of rs)) c.deref.ensures.value in
    let view = ap (λ r. length (jobs_of r.runs)) c.self.view_is in
    omega (arith, length-append (jobs_of (both i.older)) (jobs_of i.recent.items), all, c.count.ensures.jobs, c.count-2.ensures.jobs)
