-- Lists of jobs kept as runs of consecutive numbers: the jobs of a run and of a list of runs, and how runs lie to each other.
use Rattle.std.specs.Prelude.{◌≡◌, ℕ, zero, suc, ◌+◌, ◌-◌, ◌<◌, ◌≤◌, ◌==◌, ◌&&◌, ◌⊎◌, List, [], ◌∷◌, ◌++◌, All, Contains, count_by}
use Rattle.std.specs.List.{flat_map}
use Rattle.dispatch_core.specs.declared.event.Job.{Job}
use Rattle.dispatch_core.specs.declared.runs.Run.{Run}

-- so many jobs of a port, with consecutive numbers from this one on
abbrev pub jobs_from : ℕ → ℕ → ℕ → List Job
jobs_from port from zero = []
jobs_from port from (suc count) = record { port = port; number = from } ∷ jobs_from port (from + 1) count

-- the jobs of a run: the numbers from its first to its last
abbrev pub jobs_of_run : Run → List Job
jobs_of_run run = jobs_from run.port run.from (run.last + 1 - run.from)

-- the jobs of a list of runs, run after run
abbrev pub jobs_of : List Run → List Job
jobs_of runs = flat_map jobs_of_run runs

-- a list of jobs, as runs, with the number of runs for which there is room
pub record JobRuns : Type 0 where
  pub runs : List Run
  pub spare : ℕ

-- how often a job stands in a list
abbrev pub count_of : Job → List Job → ℕ
count_of job jobs = count_by (λ other. (other.port == job.port) && (other.number == job.number)) jobs

-- no job stands there twice
abbrev pub NoneTwice : List Job → Type 0
NoneTwice jobs = (job : Job) → count_of job jobs ≤ 1

-- a run holds at least one job, and its numbers are below 2^64 - 1
pub record IsFilled (run : Run) : Type 0 where
  pub not_empty : run.from ≤ run.last
  pub small : run.last < 18446744073709551615

-- one run begins no later than the other: by port, then by first number
abbrev pub BeginsBefore : Run → Run → Type 0
BeginsBefore run other = (run.port < other.port) ⊎ ((run.port ≡ other.port) × (run.from ≤ other.from))

-- one run ends before the other begins, and they do not touch: at least one number lies between them
abbrev pub LiesApart : Run → Run → Type 0
LiesApart run other = (run.port < other.port) ⊎ ((run.port ≡ other.port) × (run.last + 1 < other.from))

-- something holds of each run and each one after it
abbrev pub EachBefore : (Run → Run → Type 0) → List Run → Type 0
EachBefore R [] = Unit {0}
EachBefore R (run ∷ behind) = All (R run) behind × EachBefore R behind

-- what holds of every list of jobs that is kept as runs
pub record AreKept (runs : List Run) : Type 0 where
  pub filled : All IsFilled runs
  -- they stand in rising order of port and first number
  pub in_order : EachBefore BeginsBefore runs
  -- where no job is there twice, the runs of a port never touch
  pub apart : NoneTwice (jobs_of runs) → EachBefore LiesApart runs

-- the job with the number before this one is there, and the one with the number after it
abbrev pub HasBefore : List Job → Job → Type 0
HasBefore jobs job = (number : ℕ) × (number + 1 ≡ job.number) × Contains jobs (record { port = job.port; number = number })

abbrev pub HasBehind : List Job → Job → Type 0
HasBehind jobs job = Contains jobs (record { port = job.port; number = job.number + 1 })

-- the run of one job
abbrev pub alone : Job → Run
alone job = record { port = job.port; from = job.number; last = job.number }

-- a job gets a run of its own, and the other runs stay
abbrev pub GetsOwnRun : List Run → Job → List Run → Type 0
GetsOwnRun old job new = (front back : List Run) × (old ≡ front ++ back) × (new ≡ front ++ alone job ∷ back)

-- a job that is not there joins the runs that it touches: the number of runs before and after
pub record JoinsRuns (jobs : List Job) (job : Job) (before after : ℕ) : Type 0 where
  pub alone : ¬ HasBefore jobs job → ¬ HasBehind jobs job → after ≡ before + 1
  pub to_before : HasBefore jobs job → ¬ HasBehind jobs job → after ≡ before
  pub to_behind : ¬ HasBefore jobs job → HasBehind jobs job → after ≡ before
  pub closes_gap : HasBefore jobs job → HasBehind jobs job → after + 1 ≡ before
