-- The jobs that are left of a list of jobs that is gone over. No public clause cites this module.
use Rattle.std.specs.Prelude.{◌≡◌, List, [], ◌∷◌, All, Option, Some, None}
use Rattle.dispatch_core.specs.declared.event.Job.{Job}
use Rattle.dispatch_core.specs.declared.runs.Run.{Run}
use Rattle.dispatch_core.specs.JobRuns.{jobs_of_run, IsFilled}
use Rattle.dispatch_core.specs.Merging.{first_of}

-- the first run that is left, and those after it
abbrev pub ahead_of : Option Run → List Run → List Run
ahead_of None behind = []
ahead_of (Some run) behind = run ∷ behind

-- the jobs of a run that was begun
abbrev pub jobs_begun : Option Run → List Job
jobs_begun None = []
jobs_begun (Some run) = jobs_of_run run

abbrev pub IsBegun : Option Run → Type 0
IsBegun None = Unit {0}
IsBegun (Some run) = IsFilled run

-- what is left of a run after its first job
pub record IsBehindFirst (run : Run) (rest : Option Run) : Type 0 where
  pub jobs : jobs_of_run run ≡ first_of run ∷ jobs_begun rest
  pub begun : IsBegun rest

-- no run that is left is empty
pub record AreWalked (begun : Option Run) (runs : List Run) : Type 0 where
  pub begun_filled : IsBegun begun
  pub filled : All IsFilled runs
