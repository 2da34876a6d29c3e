use Rattle.std.proofs.Common.{◌≡◌, true, ◌+◌, ◌⊎◌, List, length, insert, Contains, vec_capacity, sym, ap, ◌∙◌, subst, arith}
use Rattle.std.proofs.lemmas.List.Edits.{length-insert}
use Rattle.dispatch_core.specs.declared.runs.Run.{Run}
use Rattle.dispatch_core.specs.JobRuns.{jobs_of, EachBefore, BeginsBefore}
use Rattle.dispatch_core.specs.Joining.{IsPlaceOf, IsStored, Joins}
use Rattle.dispatch_core.specs.Merging.{merged}
use Rattle.dispatch_core.proofs.MergedLists.{merged_each, length-merged}
use Rattle.dispatch_core.proofs.Stored.{joined_jobs, joined_count}
use Rattle.dispatch_core.proofs.Tiered.{places_both}
use Rattle.dispatch_core.proofs.Added.{sorted_settled, sorted_recent, own_kept, own_permutes, own_run, own_never, join_kept}
use Rattle.dispatch_core.specs.Tiered.{both}
use Rattle.dispatch_core.proofs.runs.Runs.add.Goals as goal

pub make_way-requires-clause-sorted : goal.make_way-requires-clause-sorted
make_way-requires-clause-sorted c = let i = c.self.inside in sorted_settled (both i.older) i.recent.items (vec_capacity i.older.long) (vec_capacity i.recent) i.has_repeats c.self.invariant

pub make_way-requires-clause-recent_sorted : goal.make_way-requires-clause-recent_sorted
make_way-requires-clause-recent_sorted c = let i = c.self.inside in sorted_recent (both i.older) i.recent.items (vec_capacity i.older.long) (vec_capacity i.recent) i.has_repeats c.self.invariant

pub make_way-requires-clause-some : goal.make_way-requires-clause-some
make_way-requires-clause-some c =
    let i = c.self.inside in
    let spare = ap (λ r. r.spare) c.self.view_is in
    c.self.invariant.some_room (omega (arith, c.requires.room, length-merged i.older.long.items i.older.short.items, length-merged (both i.older) i.recent.items))

pub places_of-places-requires : goal.places_of-places-requires
places_of-places-requires c =
    (merged_each BeginsBefore (both c.make_way.new.older) c.make_way.new.recent.items (subst (EachBefore BeginsBefore) (sym c.make_way.ensures.same) c.self.invariant.stored.in_order)).0

pub place_of-near-requires : goal.place_of-near-requires
place_of-near-requires c =
    subst (EachBefore BeginsBefore) (sym c.deref.ensures.value) (merged_each BeginsBefore (both c.make_way.new.older) c.make_way.new.recent.items (subst (EachBefore BeginsBefore) (sym c.make_way.ensures.same) c.self.invariant.stored.in_order)).1

pub invariant_of-self : goal.invariant_of-self
invariant_of-self c =
    let i = c.self.inside in
    let S = both c.make_way.new.older in
    let R = c.make_way.new.recent in
    let job = c.args.job in
    let view = ap (λ r. r.runs) c.self.view_is in
    let same = c.make_way.ensures.same ∙ view in
    let stored = subst (λ rs. IsStored rs (vec_capacity c.make_way.new.older.long) i.has_repeats) view (subst (λ n. IsStored (merged (both i.older) i.recent.items) n i.has_repeats) (sym c.make_way.ensures.older) c.self.invariant.stored) in
    let at = places_both c.make_way.new.older job c.places_of-places.result c.places_of-places.ensures in
    let near = subst (λ rs. IsPlaceOf rs job c.place_of-near.result) c.deref.ensures.value c.place_of-near.ensures in
    let why = subst (λ rs. (i.has_repeats ≡ true) ⊎ Contains (jobs_of (merged S rs)) job) c.deref-2.ensures.value c.if-gets_own.ensures in
    let is = c.insert_at.ensures.items ∙ ap (insert R.items c.place_of-near.result) c.of.ensures in
    own_kept c.args.self.now.runs S R.items c.insert_at.new.runs.items job (c.places_of-places.result.long + c.places_of-places.result.short) c.place_of-near.result (vec_capacity c.make_way.new.older.long) i.has_repeats same stored at near why is (vec_capacity c.insert_at.new.runs) c.requires.small (omega (arith, c.requires.room, length-insert R.items c.place_of-near.result c.of.result (omega (arith, near.within)), ap length c.insert_at.ensures.items, c.insert_at.ensures.capacity, c.make_way.ensures.older, c.make_way.ensures.recent, ap (λ r. r.spare) c.self.view_is, ap length view, ap length c.make_way.ensures.same, length-merged i.older.long.items i.older.short.items, length-merged (both i.older) i.recent.items, length-merged c.make_way.new.older.long.items c.make_way.new.older.short.items, length-merged S R.items, length-merged S c.insert_at.new.runs.items)) (omega (arith, c.make_way.ensures.way, c.insert_at.ensures.capacity))

pub returns-then-gets_own-clause-jobs : goal.returns-then-gets_own-clause-jobs
returns-then-gets_own-clause-jobs c =
    let i = c.self.inside in
    let S = both c.make_way.new.older in
    let R = c.make_way.new.recent in
    let job = c.args.job in
    let view = ap (λ r. r.runs) c.self.view_is in
    let same = c.make_way.ensures.same ∙ view in
    let stored = subst (λ rs. IsStored rs (vec_capacity c.make_way.new.older.long) i.has_repeats) view (subst (λ n. IsStored (merged (both i.older) i.recent.items) n i.has_repeats) (sym c.make_way.ensures.older) c.self.invariant.stored) in
    let at = places_both c.make_way.new.older job c.places_of-places.result c.places_of-places.ensures in
    let near = subst (λ rs. IsPlaceOf rs job c.place_of-near.result) c.deref.ensures.value c.place_of-near.ensures in
    let why = subst (λ rs. (i.has_repeats ≡ true) ⊎ Contains (jobs_of (merged S rs)) job) c.deref-2.ensures.value c.if-gets_own.ensures in
    let is = c.insert_at.ensures.items ∙ ap (insert R.items c.place_of-near.result) c.of.ensures in
    own_permutes c.args.self.now.runs S R.items c.insert_at.new.runs.items job (c.places_of-places.result.long + c.places_of-places.result.short) c.place_of-near.result (vec_capacity c.make_way.new.older.long) i.has_repeats same stored at near why is

pub returns-then-gets_own-clause-own_run : goal.returns-then-gets_own-clause-own_run
returns-then-gets_own-clause-own_run c has =
    let i = c.self.inside in
    let S = both c.make_way.new.older in
    let R = c.make_way.new.recent in
    let job = c.args.job in
    let view = ap (λ r. r.runs) c.self.view_is in
    let same = c.make_way.ensures.same ∙ view in
    let stored = subst (λ rs. IsStored rs (vec_capacity c.make_way.new.older.long) i.has_repeats) view (subst (λ n. IsStored (merged (both i.older) i.recent.items) n i.has_repeats) (sym c.make_way.ensures.older) c.self.invariant.stored) in
    let at = places_both c.make_way.new.older job c.places_of-places.result c.places_of-places.ensures in
    let near = subst (λ rs. IsPlaceOf rs job c.place_of-near.result) c.deref.ensures.value c.place_of-near.ensures in
    let why = subst (λ rs. (i.has_repeats ≡ true) ⊎ Contains (jobs_of (merged S rs)) job) c.deref-2.ensures.value c.if-gets_own.ensures in
    let is = c.insert_at.ensures.items ∙ ap (insert R.items c.place_of-near.result) c.of.ensures in
    own_run c.args.self.now.runs S R.items c.insert_at.new.runs.items job (c.places_of-places.result.long + c.places_of-places.result.short) c.place_of-near.result (vec_capacity c.make_way.new.older.long) i.has_repeats same stored at near why is

pub returns-then-gets_own-clause-joins : goal.returns-then-gets_own-clause-joins
returns-then-gets_own-clause-joins c =
    let i = c.self.inside in
    let S = both c.make_way.new.older in
    let R = c.make_way.new.recent in
    let job = c.args.job in
    let view = ap (λ r. r.runs) c.self.view_is in
    let same = c.make_way.ensures.same ∙ view in
    let stored = subst (λ rs. IsStored rs (vec_capacity c.make_way.new.older.long) i.has_repeats) view (subst (λ n. IsStored (merged (both i.older) i.recent.items) n i.has_repeats) (sym c.make_way.ensures.older) c.self.invariant.stored) in
    let at = places_both c.make_way.new.older job c.places_of-places.result c.places_of-places.ensures in
    let near = subst (λ rs. IsPlaceOf rs job c.place_of-near.result) c.deref.ensures.value c.place_of-near.ensures in
    let why = subst (λ rs. (i.has_repeats ≡ true) ⊎ Contains (jobs_of (merged S rs)) job) c.deref-2.ensures.value c.if-gets_own.ensures in
    let is = c.insert_at.ensures.items ∙ ap (insert R.items c.place_of-near.result) c.of.ensures in
    own_never c.args.self.now.runs S R.items c.insert_at.new.runs.items job (c.places_of-places.result.long + c.places_of-places.result.short) c.place_of-near.result (vec_capacity c.make_way.new.older.long) i.has_repeats same stored at near why is

pub returns-then-gets_own-clause-room : goal.returns-then-gets_own-clause-room
returns-then-gets_own-clause-room c =
    let i = c.self.inside in
    let S = both c.make_way.new.older in
    let R = c.make_way.new.recent in
    let view = ap (λ r. r.runs) c.self.view_is in
    let near = subst (λ rs. IsPlaceOf rs c.args.job c.place_of-near.result) c.deref.ensures.value c.place_of-near.ensures in
    omega (arith, c.requires.room, length-insert R.items c.place_of-near.result c.of.result (omega (arith, near.within)), ap length c.insert_at.ensures.items, c.insert_at.ensures.capacity, c.make_way.ensures.older, c.make_way.ensures.recent, ap (λ r. r.spare) c.self.view_is, ap length view, ap length c.make_way.ensures.same, length-merged i.older.long.items i.older.short.items, length-merged (both i.older) i.recent.items, length-merged c.make_way.new.older.long.items c.make_way.new.older.short.items, length-merged S R.items, length-merged S c.insert_at.new.runs.items)

pub returns-then-gets_own-clause-grown : goal.returns-then-gets_own-clause-grown
returns-then-gets_own-clause-grown c =
    let i = c.self.inside in
    let S = both c.make_way.new.older in
    let R = c.make_way.new.recent in
    let view = ap (λ r. r.runs) c.self.view_is in
    let near = subst (λ rs. IsPlaceOf rs c.args.job c.place_of-near.result) c.deref.ensures.value c.place_of-near.ensures in
    omega (arith, c.requires.room, length-insert R.items c.place_of-near.result c.of.result (omega (arith, near.within)), ap length c.insert_at.ensures.items, c.insert_at.ensures.capacity, c.make_way.ensures.older, c.make_way.ensures.recent, ap (λ r. r.spare) c.self.view_is, ap length view, ap length c.make_way.ensures.same, length-merged i.older.long.items i.older.short.items, length-merged (both i.older) i.recent.items, length-merged c.make_way.new.older.long.items c.make_way.new.older.short.items, length-merged S R.items, length-merged S c.insert_at.new.runs.items)

pub invariant_of-self-else-gets_own : goal.invariant_of-self-else-gets_own
invariant_of-self-else-gets_own c =
    let i = c.self.inside in
    let S = both c.make_way.new.older in
    let R = c.make_way.new.recent in
    let job = c.args.job in
    let view = ap (λ r. r.runs) c.self.view_is in
    let new = merged (both c.join.new.older) c.join.new.recent.items in
    let same = c.make_way.ensures.same ∙ view in
    let stored = subst (λ rs. IsStored rs (vec_capacity c.join.new.older.long) i.has_repeats) view (subst (λ n. IsStored (merged (both i.older) i.recent.items) n i.has_repeats) (sym (c.join.ensures.older ∙ c.make_way.ensures.older)) c.self.invariant.stored) in
    let joins : Joins c.args.self.now.runs job new = subst (λ (rs : List Run). Joins rs job new) same c.join.ensures.joined in
    join_kept c.args.self.now.runs (both c.join.new.older) c.join.new.recent.items job (vec_capacity c.join.new.older.long) (vec_capacity c.join.new.recent) i.has_repeats stored joins (omega (arith, c.requires.room, joins.room, c.join.ensures.older, c.join.ensures.recent, c.make_way.ensures.older, c.make_way.ensures.recent, ap (λ r. r.spare) c.self.view_is, ap length view, length-merged i.older.long.items i.older.short.items, length-merged (both i.older) i.recent.items, length-merged c.join.new.older.long.items c.join.new.older.short.items, length-merged (both c.join.new.older) c.join.new.recent.items)) (omega (arith, c.make_way.ensures.way, c.join.ensures.recent))

pub returns-else-gets_own-clause-jobs : goal.returns-else-gets_own-clause-jobs
returns-else-gets_own-clause-jobs c =
    let i = c.self.inside in
    let S = both c.make_way.new.older in
    let R = c.make_way.new.recent in
    let job = c.args.job in
    let view = ap (λ r. r.runs) c.self.view_is in
    let new = merged (both c.join.new.older) c.join.new.recent.items in
    let same = c.make_way.ensures.same ∙ view in
    let stored = subst (λ rs. IsStored rs (vec_capacity c.join.new.older.long) i.has_repeats) view (subst (λ n. IsStored (merged (both i.older) i.recent.items) n i.has_repeats) (sym (c.join.ensures.older ∙ c.make_way.ensures.older)) c.self.invariant.stored) in
    let joins : Joins c.args.self.now.runs job new = subst (λ (rs : List Run). Joins rs job new) same c.join.ensures.joined in
    joined_jobs c.args.self.now.runs new job joins

pub returns-else-gets_own-clause-joins : goal.returns-else-gets_own-clause-joins
returns-else-gets_own-clause-joins c none =
    let i = c.self.inside in
    let S = both c.make_way.new.older in
    let R = c.make_way.new.recent in
    let job = c.args.job in
    let view = ap (λ r. r.runs) c.self.view_is in
    let new = merged (both c.join.new.older) c.join.new.recent.items in
    let same = c.make_way.ensures.same ∙ view in
    let stored = subst (λ rs. IsStored rs (vec_capacity c.join.new.older.long) i.has_repeats) view (subst (λ n. IsStored (merged (both i.older) i.recent.items) n i.has_repeats) (sym (c.join.ensures.older ∙ c.make_way.ensures.older)) c.self.invariant.stored) in
    let joins : Joins c.args.self.now.runs job new = subst (λ (rs : List Run). Joins rs job new) same c.join.ensures.joined in
    joined_count c.args.self.now.runs new job (vec_capacity c.join.new.older.long) i.has_repeats stored joins none

pub returns-else-gets_own-clause-room : goal.returns-else-gets_own-clause-room
returns-else-gets_own-clause-room c =
    let i = c.self.inside in
    let S = both c.make_way.new.older in
    let R = c.make_way.new.recent in
    let job = c.args.job in
    let view = ap (λ r. r.runs) c.self.view_is in
    let new = merged (both c.join.new.older) c.join.new.recent.items in
    let same = c.make_way.ensures.same ∙ view in
    let stored = subst (λ rs. IsStored rs (vec_capacity c.join.new.older.long) i.has_repeats) view (subst (λ n. IsStored (merged (both i.older) i.recent.items) n i.has_repeats) (sym (c.join.ensures.older ∙ c.make_way.ensures.older)) c.self.invariant.stored) in
    let joins : Joins c.args.self.now.runs job new = subst (λ (rs : List Run). Joins rs job new) same c.join.ensures.joined in
    omega (arith, c.requires.room, joins.room, c.join.ensures.older, c.join.ensures.recent, c.make_way.ensures.older, c.make_way.ensures.recent, ap (λ r. r.spare) c.self.view_is, ap length view, length-merged i.older.long.items i.older.short.items, length-merged (both i.older) i.recent.items, length-merged c.join.new.older.long.items c.join.new.older.short.items, length-merged (both c.join.new.older) c.join.new.recent.items)

pub returns-else-gets_own-clause-grown : goal.returns-else-gets_own-clause-grown
returns-else-gets_own-clause-grown c =
    let i = c.self.inside in
    let S = both c.make_way.new.older in
    let R = c.make_way.new.recent in
    let job = c.args.job in
    let view = ap (λ r. r.runs) c.self.view_is in
    let new = merged (both c.join.new.older) c.join.new.recent.items in
    let same = c.make_way.ensures.same ∙ view in
    let stored = subst (λ rs. IsStored rs (vec_capacity c.join.new.older.long) i.has_repeats) view (subst (λ n. IsStored (merged (both i.older) i.recent.items) n i.has_repeats) (sym (c.join.ensures.older ∙ c.make_way.ensures.older)) c.self.invariant.stored) in
    let joins : Joins c.args.self.now.runs job new = subst (λ (rs : List Run). Joins rs job new) same c.join.ensures.joined in
    omega (arith, c.requires.room, joins.room, c.join.ensures.older, c.join.ensures.recent, c.make_way.ensures.older, c.make_way.ensures.recent, ap (λ r. r.spare) c.self.view_is, ap length view, length-merged i.older.long.items i.older.short.items, length-merged (both i.older) i.recent.items, length-merged c.join.new.older.long.items c.join.new.older.short.items, length-merged (both c.join.new.older) c.join.new.recent.items)
