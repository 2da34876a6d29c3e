use Rattle.std.proofs.Common.{◌≡◌, ◌+◌, insert, List, All, take, drop, sym, subst, take-append-drop}
use Rattle.dispatch_core.specs.declared.runs.Run.{Run}
use Rattle.dispatch_core.specs.JobRuns.{IsFilled, EachBefore, LiesApart}
use Rattle.dispatch_core.specs.Joining.{Joins}
use Rattle.dispatch_core.specs.Merging.{merged}
use Rattle.dispatch_core.proofs.MergedLists.{merged_each}
use Rattle.dispatch_core.proofs.Orders.{each_front}
use Rattle.dispatch_core.proofs.JoinedLists.{full_front, full_near, closed_first, closed_second, closed_anew}
use Rattle.dispatch_core.specs.Tiered.{both}
use Rattle.dispatch_core.proofs.Tiered.{places_both}
use Rattle.dispatch_core.proofs.joining.join.Goals as goal
use Rattle.dispatch_core.proofs.joining.join.Goals.{then-lengthen-via-then-lengthen, then-lengthen-via-else-lengthen+then-lengthen-2}

pub lengthen-requires-clause-filled : goal.lengthen-requires-clause-filled
lengthen-requires-clause-filled c =
    subst (All IsFilled) (sym c.take_either-last.ensures.older.front) (full_front (both c.args.older.now) c.args.recent.now.items c.args.job (c.args.places.long + c.args.places.short) c.args.near (places_both c.args.older.now c.args.job c.args.places c.requires.places) c.requires.near c.requires.filled c.requires.apart)

pub lengthen-requires-clause-apart : goal.lengthen-requires-clause-apart
lengthen-requires-clause-apart c =
    let old = both c.args.older.now in
    let n = c.args.places.long + c.args.places.short in
    let gaps = (merged_each LiesApart old c.args.recent.now.items c.requires.apart).0 in
    subst (EachBefore LiesApart) (sym c.take_either-last.ensures.older.front) (each_front LiesApart (take n old) (drop n old) (subst (EachBefore LiesApart) (sym (take-append-drop n old)) gaps))

pub lengthen-requires-else-lengthen-clause-filled : goal.lengthen-requires-else-lengthen-clause-filled
lengthen-requires-else-lengthen-clause-filled c =
    subst (All IsFilled) (sym c.take_either-last.ensures.recent.front) (full_near (both c.args.older.now) c.args.recent.now.items c.args.job (c.args.places.long + c.args.places.short) c.args.near (places_both c.args.older.now c.args.job c.args.places c.requires.places) c.requires.near c.requires.filled c.requires.apart)

pub returns-then-lengthen-clause-joined : goal.returns-then-lengthen-clause-joined
returns-then-lengthen-clause-joined c =
    let old = (both c.args.older.now) in
    let old_recent = c.args.recent.now.items in
    let open' = c.take_either-last in
    elim c.then-lengthen.branch [
      | then-lengthen-via-then-lengthen w ↦
          subst (λ v. Joins (merged old old_recent) c.args.job (merged (both c.lengthen.new.self) v.items)) (sym w.recent-is)
          (closed_first old old_recent c.args.job (c.args.places.long + c.args.places.short) c.args.near (places_both c.args.older.now c.args.job c.args.places c.requires.places) c.requires.near c.requires.filled c.requires.apart c.requires.sorted c.requires.absent c.requires.small open'.result (both open'.new.older) open'.new.recent.items open'.ensures.opened open'.ensures.older open'.ensures.recent (both c.lengthen.new.self) w.if-lengthen.ensures.lengthened)
      | then-lengthen-via-else-lengthen+then-lengthen-2 w ↦
          subst (λ v. Joins (merged old old_recent) c.args.job (merged (both c.lengthen.new.self) v.items)) (sym w.recent-is)
          (subst (λ (rs : List Run). Joins (merged old old_recent) c.args.job (merged rs w.lengthen-else-lengthen.new.runs.items)) (sym w.if-lengthen.ensures.lengthened.1)
          (closed_second old old_recent c.args.job (c.args.places.long + c.args.places.short) c.args.near (places_both c.args.older.now c.args.job c.args.places c.requires.places) c.requires.near c.requires.filled c.requires.apart c.requires.sorted c.requires.absent c.requires.small open'.result (both open'.new.older) open'.new.recent.items open'.ensures.opened open'.ensures.older open'.ensures.recent w.lengthen-else-lengthen.new.runs.items w.if-lengthen-2.ensures.lengthened))
    ]

pub returns-clause-joined : goal.returns-clause-joined
returns-clause-joined c =
    let old = (both c.args.older.now) in
    let old_recent = c.args.recent.now.items in
    let open' = c.take_either-last in
    let same = c.if-lengthen.ensures.lengthened.1 in
    let same_recent = c.if-lengthen-2.ensures.lengthened.1 in
    subst (λ (rs : List Run). Joins (merged old old_recent) c.args.job (merged rs c.insert_at.new.runs.items)) (sym same)
    (closed_anew old old_recent c.args.job (c.args.places.long + c.args.places.short) c.args.near (places_both c.args.older.now c.args.job c.args.places c.requires.places) c.requires.near c.requires.filled c.requires.apart c.requires.sorted c.requires.absent c.requires.small open'.result (both open'.new.older) open'.new.recent.items open'.ensures.opened open'.ensures.older open'.ensures.recent c.insert_at.new.runs.items c.if-lengthen.ensures.lengthened.0 c.if-lengthen-2.ensures.lengthened.0
    (subst (λ (rs : List Run). c.insert_at.new.runs.items ≡ insert rs c.args.near (record { port = c.args.job.port; from = c.args.job.number; last = open'.result })) same_recent c.insert_at.ensures.items))
