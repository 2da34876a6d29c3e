use Rattle.std.proofs.Common.{◌≡◌, Bool, true, false, List, Contains, refl, sym, ◌∙◌, subst, inr, ⊎_elim}
use Rattle.std.proofs.lemmas.Bool.{false≢true}
use Rattle.dispatch_core.specs.declared.event.Job.{Job}
use Rattle.dispatch_core.specs.declared.runs.Run.{Run}
use Rattle.dispatch_core.specs.JobRuns.{jobs_of, LiesApart}
use Rattle.dispatch_core.specs.Merging.{merged, GetsOwnIf}
use Rattle.dispatch_core.proofs.MergedLists.{merged_each, merged_has, has_first, has_second}
use Rattle.dispatch_core.specs.Tiered.{both}
use Rattle.dispatch_core.proofs.joining.gets_own.Goals as goal

told : (has_repeats : Bool) (settled recent : List Run) (job : Job) (second : Bool) → has_repeats ≡ false → ¬ Contains (jobs_of settled) job → (second ≡ true → Contains (jobs_of recent) job) → (Contains (jobs_of recent) job → second ≡ true) → GetsOwnIf has_repeats (jobs_of (merged settled recent)) job second
told has_repeats settled recent job true none absent is has = inr (has_second settled recent job (is refl))
told has_repeats settled recent job false none absent is has = (
  none,
  λ there.
      ⊎_elim (λ (first : Contains (jobs_of settled) job). absent first) (λ (second : Contains (jobs_of recent) job). false≢true (has second))
      (merged_has settled recent job there),
)

pub has_at-requires-clause-apart : goal.has_at-requires-clause-apart
has_at-requires-clause-apart c = (merged_each LiesApart (both c.args.older.now) c.args.recent.now (c.requires.apart c.if-has_repeats.false)).0

pub has_at-requires-else-has_at-clause-apart : goal.has_at-requires-else-has_at-clause-apart
has_at-requires-else-has_at-clause-apart c = (merged_each LiesApart (both c.args.older.now) c.args.recent.now (c.requires.apart c.if-has_repeats.false)).1

pub returns-then-has_at : goal.returns-then-has_at
returns-then-has_at c =
    subst (GetsOwnIf c.args.has_repeats (jobs_of (merged (both c.args.older.now) c.args.recent.now)) c.args.job) (sym c.if-has_at.true)
    (inr (has_first (both c.args.older.now) c.args.recent.now c.args.job (c.has_at.ensures.0 c.if-has_at.true)))

pub returns-else-has_at : goal.returns-else-has_at
returns-else-has_at c =
    told c.args.has_repeats (both c.args.older.now) c.args.recent.now c.args.job c.has_at-else-has_at.result c.if-has_repeats.false (λ first. false≢true (sym c.if-has_at.false ∙ c.has_at.ensures.1 first)) c.has_at-else-has_at.ensures.0 c.has_at-else-has_at.ensures.1
