-- Two sorted lists of runs seen as one, and a job between them. No public clause cites this module.
use Rattle.std.specs.Prelude.{◌≡◌, ℕ, ◌<◌, ◌≤◌, Bool, true, false, if◌then◌else◌, ◌⊎◌, List, [], ◌∷◌, ◌++◌, length, take, drop, All, Contains, Option, Some, None}
use Rattle.dispatch_core.specs.declared.event.Job.{Job}
use Rattle.dispatch_core.specs.declared.runs.Run.{Run}
use Rattle.dispatch_core.specs.Joining.{begins_by, EndsBefore, BeginsBehind, IsStored}

-- the first job of a run
abbrev pub first_of : Run → Job
first_of run = record { port = run.port; number = run.from }

-- a run comes after those that begin before it, and then `rest` goes on with the others
abbrev pub merged_at : Run → (List Run → List Run) → List Run → List Run
merged_at run rest [] = run ∷ rest []
merged_at run rest (other ∷ others) = if begins_by (first_of other) run then run ∷ rest (other ∷ others) else other ∷ merged_at run rest others

-- two sorted lists as one sorted list
abbrev pub merged : List Run → List Run → List Run
merged [] others = others
merged (run ∷ runs) others = merged_at run (merged runs) others

-- a run begins after a job
abbrev pub BeginsAfter : Run → Job → Type 0
BeginsAfter run job = (job.port < run.port) ⊎ ((job.port ≡ run.port) × (job.number < run.from))

-- the run right after a job, if there is one, is taken out, and its last number is told
abbrev pub TakesBehind : List Run → ℕ → Job → Option ℕ → List Run → Type 0
TakesBehind old place job None new = ¬ BeginsBehind (drop place old) job × (new ≡ old)
TakesBehind old place job (Some last) new = (begins : BeginsBehind (drop place old) job) × (last ≡ begins.run.last) × (take place new ≡ take place old) × (drop place new ≡ begins.back) × (place ≤ length new)

-- the run that ends right before a job, if there is one, goes on to a last number
abbrev pub Lengthens : List Run → ℕ → Job → ℕ → Bool → List Run → Type 0
Lengthens old place job last true new = (ends : EndsBefore (take place old) job) × (new ≡ ends.front ++ record { port = ends.run.port; from = ends.run.from; last = last } ∷ drop place old)
Lengthens old place job last false new = ¬ EndsBefore (take place old) job × (new ≡ old)

-- after a job stands what stood there, or all but the run right after it, and the last number to which the job's run goes
abbrev pub IsOpened : List Run → Job → ℕ → List Run → Type 0
IsOpened back job last opened = (¬ BeginsBehind back job × (last ≡ job.number) × (opened ≡ back)) ⊎ ((begins : BeginsBehind back job) × (last ≡ begins.run.last) × (opened ≡ begins.back))

-- what stands before a place stays, and what stands behind it begins after a job
pub record Shortens (old : List Run) (place : ℕ) (job : Job) (new : List Run) : Type 0 where
  pub within : place ≤ length new
  pub front : take place new ≡ take place old
  pub behind : All (λ run. BeginsAfter run job) (drop place new)
  pub fewer : length new ≤ length old

-- a job gets a run of its own where it is there already, or some other is there twice
abbrev pub GetsOwnIf : Bool → List Job → Job → Bool → Type 0
GetsOwnIf has_repeats jobs job true = (has_repeats ≡ true) ⊎ Contains jobs job
GetsOwnIf has_repeats jobs job false = (has_repeats ≡ false) × ¬ Contains jobs job

-- how a list of jobs is kept in two lists: there is room beside the settled runs for the recent ones too, and where the
-- settled ones have some, so have the recent ones
pub record IsKeptIn (settled recent : List Run) (capacity room : ℕ) (has_repeats : Bool) : Type 0 where
  pub stored : IsStored (merged settled recent) capacity has_repeats
  pub some_room : 1 ≤ capacity → 1 ≤ room
