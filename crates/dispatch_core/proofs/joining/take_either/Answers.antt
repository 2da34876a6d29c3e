use Rattle.std.proofs.Common.{◌+◌, Some, None, drop, sym, subst}
use Rattle.dispatch_core.specs.Merging.{merged, IsOpened}
use Rattle.dispatch_core.specs.JobRuns.{IsFilled, LiesApart}
use Rattle.dispatch_core.proofs.MergedLists.{merged_all, merged_each}
use Rattle.dispatch_core.proofs.JoinedLists.{shortened, by_first, by_second, by_none}
use Rattle.dispatch_core.specs.Tiered.{both}
use Rattle.dispatch_core.proofs.Tiered.{places_both}
use Rattle.dispatch_core.proofs.joining.take_either.Goals as goal

pub returns-in-Some-clause-opened : goal.returns-in-Some-clause-opened
returns-in-Some-clause-opened c =
    by_first (both c.args.older.now) c.args.recent.now.items c.args.job (c.args.places.long + c.args.places.short) c.args.near (places_both c.args.older.now c.args.job c.args.places c.requires.places) c.requires.near c.requires.filled c.requires.apart c.in-Some.last (both c.take_behind.new.self) c.in-Some.ensures.taken

pub returns-in-Some-clause-older : goal.returns-in-Some-clause-older
returns-in-Some-clause-older c = shortened (both c.args.older.now) (both c.take_behind.new.self) (c.args.places.long + c.args.places.short) c.args.job (Some c.in-Some.last) (places_both c.args.older.now c.args.job c.args.places c.requires.places) c.in-Some.ensures.taken

pub returns-in-Some-take_behind-clause-opened : goal.returns-in-Some-take_behind-clause-opened
returns-in-Some-take_behind-clause-opened c =
    let same = c.in-None.ensures.taken.1 in
    subst (λ rs. IsOpened (merged (drop (c.args.places.long + c.args.places.short) (both c.args.older.now)) (drop c.args.near c.args.recent.now.items)) c.args.job c.in-Some-take_behind.last (merged (drop (c.args.places.long + c.args.places.short) rs) (drop c.args.near c.take_behind-in-None.new.runs.items))) (sym same)
    (by_second (both c.args.older.now) c.args.recent.now.items c.args.job (c.args.places.long + c.args.places.short) c.args.near (places_both c.args.older.now c.args.job c.args.places c.requires.places) c.requires.near c.requires.filled c.requires.apart c.in-Some-take_behind.last c.take_behind-in-None.new.runs.items c.in-Some-take_behind.ensures.taken)

pub returns-in-Some-take_behind-clause-recent : goal.returns-in-Some-take_behind-clause-recent
returns-in-Some-take_behind-clause-recent c = shortened c.args.recent.now.items c.take_behind-in-None.new.runs.items c.args.near c.args.job (Some c.in-Some-take_behind.last) c.requires.near c.in-Some-take_behind.ensures.taken

pub returns-in-None-take_behind-clause-opened : goal.returns-in-None-take_behind-clause-opened
returns-in-None-take_behind-clause-opened c =
    let back = merged (drop (c.args.places.long + c.args.places.short) (both c.args.older.now)) (drop c.args.near c.args.recent.now.items) in
    subst (λ rs. IsOpened back c.args.job c.args.job.number (merged (drop (c.args.places.long + c.args.places.short) rs) (drop c.args.near c.take_behind-in-None.new.runs.items))) (sym c.in-None.ensures.taken.1)
    (subst (λ rs. IsOpened back c.args.job c.args.job.number (merged (drop (c.args.places.long + c.args.places.short) (both c.args.older.now)) (drop c.args.near rs))) (sym c.in-None-take_behind.ensures.taken.1)
    (by_none (both c.args.older.now) c.args.recent.now.items c.args.job (c.args.places.long + c.args.places.short) c.args.near (places_both c.args.older.now c.args.job c.args.places c.requires.places) c.requires.near c.requires.filled c.requires.apart c.in-None.ensures.taken.0 c.in-None-take_behind.ensures.taken.0))

pub take_behind-requires-clause-filled : goal.take_behind-requires-clause-filled
take_behind-requires-clause-filled c = (merged_all IsFilled (both c.args.older.now) c.args.recent.now.items c.requires.filled).0

pub take_behind-requires-clause-apart : goal.take_behind-requires-clause-apart
take_behind-requires-clause-apart c = (merged_each LiesApart (both c.args.older.now) c.args.recent.now.items c.requires.apart).0

pub returns-in-Some-take_behind-clause-older : goal.returns-in-Some-take_behind-clause-older
returns-in-Some-take_behind-clause-older c = shortened (both c.args.older.now) (both c.take_behind.new.self) (c.args.places.long + c.args.places.short) c.args.job None (places_both c.args.older.now c.args.job c.args.places c.requires.places) c.in-None.ensures.taken

pub returns-in-None-take_behind-clause-older : goal.returns-in-None-take_behind-clause-older
returns-in-None-take_behind-clause-older c = shortened (both c.args.older.now) (both c.take_behind.new.self) (c.args.places.long + c.args.places.short) c.args.job None (places_both c.args.older.now c.args.job c.args.places c.requires.places) c.in-None.ensures.taken
