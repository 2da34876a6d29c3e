use Rattle.std.proofs.Common.{List, ◌++◌, length, IsPermutation, All, vec_capacity, sym, ap, ◌∙◌, subst, arith}
use Rattle.dispatch_core.specs.declared.runs.Run.{Run}
use Rattle.dispatch_core.specs.JobRuns.{jobs_of, IsFilled, EachBefore, BeginsBefore}
use Rattle.dispatch_core.specs.Joining.{AreTidied}
use Rattle.dispatch_core.specs.Merging.{merged}
use Rattle.dispatch_core.specs.Tiered.{both}
use Rattle.dispatch_core.proofs.MergedLists.{length-merged}
use Rattle.dispatch_core.proofs.Added.{sorted_settled, sorted_recent, lengths_within}
use Rattle.dispatch_core.proofs.Merged.{all_filled, all_sorted, new_jobs, new_long, new_kept}
use Rattle.dispatch_core.proofs.runs.Runs.merge.Goals as goal

pub settle_all-requires-clause-sorted : goal.settle_all-requires-clause-sorted
settle_all-requires-clause-sorted c = let o = c.other.inside in sorted_settled (both o.older) o.recent.items (vec_capacity o.older.long) (vec_capacity o.recent) o.has_repeats c.other.invariant

pub settle_all-requires-clause-recent_sorted : goal.settle_all-requires-clause-recent_sorted
settle_all-requires-clause-recent_sorted c = let o = c.other.inside in sorted_recent (both o.older) o.recent.items (vec_capacity o.older.long) (vec_capacity o.recent) o.has_repeats c.other.invariant

pub settle_all-requires-clause-room : goal.settle_all-requires-clause-room
settle_all-requires-clause-room c = let o = c.other.inside in omega (arith, lengths_within (both o.older) o.recent.items (vec_capacity o.older.long) (vec_capacity o.recent) o.has_repeats c.other.invariant, length-merged o.older.long.items o.older.short.items)

pub settle_all-requires-2-clause-sorted : goal.settle_all-requires-2-clause-sorted
settle_all-requires-2-clause-sorted c = let i = c.self.inside in sorted_settled (both i.older) i.recent.items (vec_capacity i.older.long) (vec_capacity i.recent) i.has_repeats c.self.invariant

pub settle_all-requires-2-clause-recent_sorted : goal.settle_all-requires-2-clause-recent_sorted
settle_all-requires-2-clause-recent_sorted c = let i = c.self.inside in sorted_recent (both i.older) i.recent.items (vec_capacity i.older.long) (vec_capacity i.recent) i.has_repeats c.self.invariant

pub settle_all-requires-2-clause-room : goal.settle_all-requires-2-clause-room
settle_all-requires-2-clause-room c = let i = c.self.inside in omega (arith, lengths_within (both i.older) i.recent.items (vec_capacity i.older.long) (vec_capacity i.recent) i.has_repeats c.self.invariant, length-merged i.older.long.items i.older.short.items)

pub merge_into-requires-clause-room : goal.merge_into-requires-clause-room
merge_into-requires-clause-room c =
    let i = c.self.inside in
    let view = ap (λ r. r.spare) c.self.view_is in
    omega (arith, lengths_within (both i.older) i.recent.items (vec_capacity i.older.long) (vec_capacity i.recent) i.has_repeats c.self.invariant, length-merged i.older.long.items i.older.short.items, length-merged (both i.older) i.recent.items, c.requires.room, view, ap (λ r. length r.runs) c.other.view_is, c.settle_all-2.ensures.capacity, ap length c.settle_all-2.ensures.long, ap length (c.deref.ensures.value ∙ c.settle_all.ensures.long))

pub tidy-self-inside-requires-clause-filled : goal.tidy-self-inside-requires-clause-filled
tidy-self-inside-requires-clause-filled c =
    let i = c.self.inside in
    let o = c.other.inside in
    let runs = merged (both i.older) i.recent.items in
    let more = merged (both o.older) o.recent.items in
    let after = c.merge_into.ensures.items ∙ ap (λ rs. merged rs c.deref.result.now) c.settle_all-2.ensures.long ∙ ap (merged runs) (c.deref.ensures.value ∙ c.settle_all.ensures.long) in
    subst (All IsFilled) (sym after) (all_filled runs more (vec_capacity i.older.long) (vec_capacity o.older.long) i.has_repeats o.has_repeats c.self.invariant.stored c.other.invariant.stored)

pub tidy-self-inside-requires-clause-sorted : goal.tidy-self-inside-requires-clause-sorted
tidy-self-inside-requires-clause-sorted c =
    let i = c.self.inside in
    let o = c.other.inside in
    let runs = merged (both i.older) i.recent.items in
    let more = merged (both o.older) o.recent.items in
    let after = c.merge_into.ensures.items ∙ ap (λ rs. merged rs c.deref.result.now) c.settle_all-2.ensures.long ∙ ap (merged runs) (c.deref.ensures.value ∙ c.settle_all.ensures.long) in
    subst (EachBefore BeginsBefore) (sym after) (all_sorted runs more (vec_capacity i.older.long) (vec_capacity o.older.long) i.has_repeats o.has_repeats c.self.invariant.stored c.other.invariant.stored)

pub invariant_of-self : goal.invariant_of-self
invariant_of-self c =
    let i = c.self.inside in
    let o = c.other.inside in
    let runs = merged (both i.older) i.recent.items in
    let more = merged (both o.older) o.recent.items in
    let after = c.merge_into.ensures.items ∙ ap (λ rs. merged rs c.deref.result.now) c.settle_all-2.ensures.long ∙ ap (merged runs) (c.deref.ensures.value ∙ c.settle_all.ensures.long) in
    let new = c.tidy-self-inside.new.runs in
    let short = c.settle_all-2.new.self.short.items in
    let none = c.settle_all-2.new.recent.items in
    let twice = c.tidy-self-inside.result in
    let tidied : AreTidied (merged runs more) new.items twice = subst (λ (rs : List Run). AreTidied rs new.items twice) after c.tidy-self-inside.ensures.tidied in
    let capacity = c.tidy-self-inside.ensures.capacity ∙ c.merge_into.ensures.capacity ∙ c.settle_all-2.ensures.capacity in
    let long = new_long runs more (vec_capacity i.older.long) (vec_capacity o.older.long) i.has_repeats o.has_repeats c.self.invariant.stored c.other.invariant.stored new.items short none twice tidied c.settle_all-2.ensures.short c.settle_all-2.ensures.none in
    new_kept runs more (vec_capacity i.older.long) (vec_capacity o.older.long) i.has_repeats o.has_repeats c.self.invariant.stored c.other.invariant.stored new.items short none twice tidied c.settle_all-2.ensures.short c.settle_all-2.ensures.none (vec_capacity new) (vec_capacity c.settle_all-2.new.recent)
    (omega (arith, long, capacity, c.requires.room, lengths_within (both i.older) i.recent.items (vec_capacity i.older.long) (vec_capacity i.recent) i.has_repeats c.self.invariant, length-merged i.older.long.items i.older.short.items, length-merged (both i.older) i.recent.items, ap (λ r. r.spare) c.self.view_is, ap (λ r. length r.runs) c.other.view_is))
    (λ one. omega (arith, c.self.invariant.some_room (omega (arith, capacity)), c.settle_all-2.ensures.recent))

pub returns-clause-jobs : goal.returns-clause-jobs
returns-clause-jobs c =
    let i = c.self.inside in
    let o = c.other.inside in
    let runs = merged (both i.older) i.recent.items in
    let more = merged (both o.older) o.recent.items in
    let after = c.merge_into.ensures.items ∙ ap (λ rs. merged rs c.deref.result.now) c.settle_all-2.ensures.long ∙ ap (merged runs) (c.deref.ensures.value ∙ c.settle_all.ensures.long) in
    let new = c.tidy-self-inside.new.runs in
    let short = c.settle_all-2.new.self.short.items in
    let none = c.settle_all-2.new.recent.items in
    let twice = c.tidy-self-inside.result in
    let tidied : AreTidied (merged runs more) new.items twice = subst (λ (rs : List Run). AreTidied rs new.items twice) after c.tidy-self-inside.ensures.tidied in
    subst (λ (rs : List Run). IsPermutation (jobs_of rs ++ jobs_of c.args.other.runs) (jobs_of (merged (merged new.items short) none))) (ap (λ r. r.runs) c.self.view_is)
    (subst (λ (rs : List Run). IsPermutation (jobs_of runs ++ jobs_of rs) (jobs_of (merged (merged new.items short) none))) (ap (λ r. r.runs) c.other.view_is) (new_jobs runs more (vec_capacity i.older.long) (vec_capacity o.older.long) i.has_repeats o.has_repeats c.self.invariant.stored c.other.invariant.stored new.items short none twice tidied c.settle_all-2.ensures.short c.settle_all-2.ensures.none))

pub returns-clause-room : goal.returns-clause-room
returns-clause-room c =
    let i = c.self.inside in
    let o = c.other.inside in
    let runs = merged (both i.older) i.recent.items in
    let more = merged (both o.older) o.recent.items in
    let after = c.merge_into.ensures.items ∙ ap (λ rs. merged rs c.deref.result.now) c.settle_all-2.ensures.long ∙ ap (merged runs) (c.deref.ensures.value ∙ c.settle_all.ensures.long) in
    let new = c.tidy-self-inside.new.runs in
    let short = c.settle_all-2.new.self.short.items in
    let none = c.settle_all-2.new.recent.items in
    let twice = c.tidy-self-inside.result in
    let tidied : AreTidied (merged runs more) new.items twice = subst (λ (rs : List Run). AreTidied rs new.items twice) after c.tidy-self-inside.ensures.tidied in
    let capacity = c.tidy-self-inside.ensures.capacity ∙ c.merge_into.ensures.capacity ∙ c.settle_all-2.ensures.capacity in
    let long = new_long runs more (vec_capacity i.older.long) (vec_capacity o.older.long) i.has_repeats o.has_repeats c.self.invariant.stored c.other.invariant.stored new.items short none twice tidied c.settle_all-2.ensures.short c.settle_all-2.ensures.none in
    omega (arith, long, capacity, c.requires.room, lengths_within (both i.older) i.recent.items (vec_capacity i.older.long) (vec_capacity i.recent) i.has_repeats c.self.invariant, length-merged i.older.long.items i.older.short.items, length-merged (both i.older) i.recent.items, length-merged new.items short, length-merged (merged new.items short) none, ap length c.settle_all-2.ensures.short, ap length c.settle_all-2.ensures.none, ap (λ r. r.spare) c.self.view_is, ap (λ r. length r.runs) c.self.view_is, ap (λ r. length r.runs) c.other.view_is)

pub returns-clause-grown : goal.returns-clause-grown
returns-clause-grown c =
    let i = c.self.inside in
    let o = c.other.inside in
    let runs = merged (both i.older) i.recent.items in
    let more = merged (both o.older) o.recent.items in
    let after = c.merge_into.ensures.items ∙ ap (λ rs. merged rs c.deref.result.now) c.settle_all-2.ensures.long ∙ ap (merged runs) (c.deref.ensures.value ∙ c.settle_all.ensures.long) in
    let new = c.tidy-self-inside.new.runs in
    let short = c.settle_all-2.new.self.short.items in
    let none = c.settle_all-2.new.recent.items in
    let twice = c.tidy-self-inside.result in
    let tidied : AreTidied (merged runs more) new.items twice = subst (λ (rs : List Run). AreTidied rs new.items twice) after c.tidy-self-inside.ensures.tidied in
    omega (arith, new_long runs more (vec_capacity i.older.long) (vec_capacity o.older.long) i.has_repeats o.has_repeats c.self.invariant.stored c.other.invariant.stored new.items short none twice tidied c.settle_all-2.ensures.short c.settle_all-2.ensures.none, ap (λ r. length r.runs) c.self.view_is, ap (λ r. length r.runs) c.other.view_is)
