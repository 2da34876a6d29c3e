-- Sorted runs, the place of a job among them, and what putting it there makes of them. No public clause cites this module.
use Rattle.std.specs.Prelude.{◌≡◌, ℕ, ◌+◌, ◌<◌, ◌≤◌, ◌==◌, nat_lt, nat_le, ◌&&◌, ◌||◌, ◌⊎◌, Bool, true, false, List, [], ◌∷◌, ◌++◌, length, take, drop, All}
use Rattle.dispatch_core.specs.declared.event.Job.{Job}
use Rattle.dispatch_core.specs.declared.runs.Run.{Run}
use Rattle.dispatch_core.specs.JobRuns.{jobs_of, IsFilled, EachBefore, BeginsBefore, LiesApart, NoneTwice, JoinsRuns}

-- a run has a job
abbrev pub covers : Job → Run → Bool
covers job run = ((run.port == job.port) && nat_le run.from job.number) && nat_le job.number run.last

-- a run begins at a job or before it
abbrev pub begins_by : Job → Run → Bool
begins_by job run = nat_lt run.port job.port || ((run.port == job.port) && nat_le run.from job.number)

-- so many runs begin at a job or before it, and the others after it
pub record IsPlaceOf (runs : List Run) (job : Job) (place : ℕ) : Type 0 where
  pub within : place ≤ length runs
  pub front : All (λ run. begins_by job run ≡ true) (take place runs)
  pub back : All (λ run. begins_by job run ≡ false) (drop place runs)

-- the last of the runs ends right before a job
pub record EndsBefore (runs : List Run) (job : Job) : Type 0 where
  pub front : List Run
  pub run : Run
  pub there : runs ≡ front ++ run ∷ []
  pub port : run.port ≡ job.port
  pub touches : run.last + 1 ≡ job.number

-- the first of the runs begins right after a job
pub record BeginsBehind (runs : List Run) (job : Job) : Type 0 where
  pub run : Run
  pub back : List Run
  pub there : runs ≡ run ∷ back
  pub port : run.port ≡ job.port
  pub touches : job.number + 1 ≡ run.from

-- a job is put into a list at one place
pub record PutsIn (old : List Job) (job : Job) (new : List Job) : Type 0 where
  pub before : List Job
  pub behind : List Job
  pub was : old ≡ before ++ behind
  pub is : new ≡ before ++ job ∷ behind

-- a job is put into sorted runs that do not have it
pub record Joins (old : List Run) (job : Job) (new : List Run) : Type 0 where
  pub filled : All IsFilled new
  pub in_order : EachBefore BeginsBefore new
  pub apart : EachBefore LiesApart old → EachBefore LiesApart new
  pub put_in : PutsIn (jobs_of old) job (jobs_of new)
  pub room : length new ≤ length old + 1
  pub count : EachBefore LiesApart old → JoinsRuns (jobs_of old) job (length old) (length new)

-- one run ends before the other begins; they may touch
abbrev pub LiesClear : Run → Run → Type 0
LiesClear run other = (run.port < other.port) ⊎ ((run.port ≡ other.port) × (run.last < other.from))

-- how a list of jobs is kept: a mark tells whether some job is there twice
pub record IsStored (runs : List Run) (capacity : ℕ) (has_repeats : Bool) : Type 0 where
  pub filled : All IsFilled runs
  pub in_order : EachBefore BeginsBefore runs
  pub apart : has_repeats ≡ false → EachBefore LiesApart runs
  pub repeats : has_repeats ≡ true → ¬ NoneTwice (jobs_of runs)
  pub within : length runs ≤ capacity

-- runs that touch are joined: the jobs stay, in their order
pub record AreJoined (old new : List Run) : Type 0 where
  pub jobs : jobs_of new ≡ jobs_of old
  pub filled : All IsFilled new
  pub apart : EachBefore LiesApart new
  pub fewer : length new ≤ length old

-- runs that touch are joined, unless some job is there twice: a mark tells which
pub record AreTidied (old new : List Run) (has_repeats : Bool) : Type 0 where
  pub jobs : jobs_of new ≡ jobs_of old
  pub stored : IsStored new (length old) has_repeats
