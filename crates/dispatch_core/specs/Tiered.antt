-- A long and a short sorted list of runs, and the place of a job in both. No public clause cites this module.
use Rattle.std.specs.Prelude.{◌≤◌, ℕ, List, length, take, drop, All}
use Rattle.dispatch_core.specs.declared.event.Job.{Job}
use Rattle.dispatch_core.specs.declared.runs.Run.{Run}
use Rattle.dispatch_core.specs.declared.tiers.Tiers.{Tiers}
use Rattle.dispatch_core.specs.declared.tiers.Places.{Places}
use Rattle.dispatch_core.specs.JobRuns.{alone, BeginsBefore}
use Rattle.dispatch_core.specs.Joining.{IsPlaceOf}
use Rattle.dispatch_core.specs.Merging.{merged, BeginsAfter}

-- both lists as one
abbrev pub both : Tiers → List Run
both tiers = merged tiers.long.items tiers.short.items

-- so many runs of each list begin at a job or before it
pub record ArePlacesOf (tiers : Tiers) (job : Job) (places : Places) : Type 0 where
  pub long : IsPlaceOf tiers.long.items job places.long
  pub short : IsPlaceOf tiers.short.items job places.short

-- so many runs begin by a job, and the others after it
pub record IsCut (runs : List Run) (job : Job) (place : ℕ) : Type 0 where
  pub within : place ≤ length runs
  pub front : All (λ run. BeginsBefore run (alone job)) (take place runs)
  pub back : All (λ run. BeginsAfter run job) (drop place runs)

pub record AreCutAt (tiers : Tiers) (job : Job) (places : Places) : Type 0 where
  pub long : IsCut tiers.long.items job places.long
  pub short : IsCut tiers.short.items job places.short
