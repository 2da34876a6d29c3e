-- Settled jobs, by their fates.
use Rattle.std.specs.Prelude.{◌≡◌, ◌≢◌, ℕ, List, [], ◌∷◌, min, sum_by}
use Rattle.std.specs.List.Sorted.{IsPermutation}
use Rattle.dispatch_core.specs.declared.event.Job.{Job}
use Rattle.dispatch_core.specs.declared.runs.Run.{Run}
use Rattle.dispatch_core.specs.JobRuns.{JobRuns, jobs_of, count_of}
use Rattle.group_jobs.specs.declared.fate.Fate.{Fate}
use Rattle.group_jobs.specs.declared.fate.Fate.TheVariants.{Acknowledged, Refused, Discarded}
use Rattle.group_jobs.specs.declared.ledger.Ledger.{Ledger}

-- every fate of a job that was handed out
abbrev pub fates : List Fate
fates = Acknowledged ∷ Refused ∷ Discarded ∷ []

-- the list of the jobs of this fate, with the room beside it
abbrev pub list_of : Fate → Ledger → JobRuns
list_of Acknowledged ledger = ledger.acknowledged
list_of Refused ledger = ledger.refused
list_of Discarded ledger = ledger.discarded

abbrev pub runs_of : Fate → Ledger → List Run
runs_of fate ledger = (list_of fate ledger).runs

-- for how many more runs of this fate there is room
abbrev pub spare_of : Fate → Ledger → ℕ
spare_of fate ledger = (list_of fate ledger).spare

-- and for how many more of any one fate
abbrev pub least_spare : Ledger → ℕ
least_spare ledger = min (min (spare_of Acknowledged ledger) (spare_of Refused ledger)) (spare_of Discarded ledger)

-- the jobs of this fate
abbrev pub settled_as : Fate → Ledger → List Job
settled_as fate ledger = jobs_of (runs_of fate ledger)

-- how often a job was settled, by whatever fate
abbrev pub times_settled : Job → Ledger → ℕ
times_settled job ledger = sum_by (λ fate. count_of job (settled_as fate ledger)) fates

-- each fate has its jobs as before
abbrev pub KeepsSettled : Ledger → Ledger → Type 0
KeepsSettled old new = (fate : Fate) → runs_of fate new ≡ runs_of fate old

-- no job was settled
abbrev pub IsUnsettled : Ledger → Type 0
IsUnsettled ledger = (fate : Fate) → runs_of fate ledger ≡ []

-- a job is added to those of this fate, and each other fate has its jobs as before
pub record Settles (old : Ledger) (job : Job) (fate : Fate) (new : Ledger) : Type 0 where
  pub there : IsPermutation (job ∷ settled_as fate old) (settled_as fate new)
  pub others : (other : Fate) → other ≢ fate → list_of other new ≡ list_of other old
