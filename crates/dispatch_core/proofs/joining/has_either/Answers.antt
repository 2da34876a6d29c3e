use Rattle.std.proofs.Common.{Contains, sym, ◌∙◌, ⊎_elim}
use Rattle.std.proofs.lemmas.Bool.{false≢true}
use Rattle.dispatch_core.specs.JobRuns.{jobs_of, BeginsBefore, LiesApart}
use Rattle.dispatch_core.specs.Tiered.{both}
use Rattle.dispatch_core.proofs.MergedLists.{merged_each, merged_has, has_first, has_second}
use Rattle.dispatch_core.proofs.joining.has_either.Goals as goal

pub places_of-requires : goal.places_of-requires
places_of-requires c = (merged_each BeginsBefore (both c.args.older.now) c.args.recent.now c.requires.sorted).0

pub has_at-requires-clause-apart : goal.has_at-requires-clause-apart
has_at-requires-clause-apart c = (merged_each LiesApart (both c.args.older.now) c.args.recent.now c.requires.apart).0

pub place_of-requires : goal.place_of-requires
place_of-requires c = (merged_each BeginsBefore (both c.args.older.now) c.args.recent.now c.requires.sorted).1

pub has_at-requires-else-has_at-clause-apart : goal.has_at-requires-else-has_at-clause-apart
has_at-requires-else-has_at-clause-apart c = (merged_each LiesApart (both c.args.older.now) c.args.recent.now c.requires.apart).1

pub returns-then-has_at : goal.returns-then-has_at
returns-then-has_at c = (λ is. has_first (both c.args.older.now) c.args.recent.now c.args.job (c.has_at.ensures.0 is), λ has. c.if-has_at.true)

pub returns-else-has_at : goal.returns-else-has_at
returns-else-has_at c = (
  λ is. has_second (both c.args.older.now) c.args.recent.now c.args.job (c.has_at-else-has_at.ensures.0 is),
  λ has.
      ⊎_elim
      (λ (first : Contains (jobs_of (both c.args.older.now)) c.args.job). absurd (false≢true (sym c.if-has_at.false ∙ c.has_at.ensures.1 first)))
      (λ (second : Contains (jobs_of c.args.recent.now) c.args.job). c.has_at-else-has_at.ensures.1 second)
      (merged_has (both c.args.older.now) c.args.recent.now c.args.job has),
)
