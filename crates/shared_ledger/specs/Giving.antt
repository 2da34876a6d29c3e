-- The rule of a shared ledger: there is one, in the queue or in somebody's hands, and it has what all gave.
use Rattle.std.specs.Prelude.{◌≡◌, ℕ, ◌+◌, List, [], ◌∷◌, ◌++◌, length, sum_by}
use mathlib.Core.Option.{some}
use lib.ListN.{get_elem?}
use Rattle.dispatch_core.specs.declared.event.Job.{Job}
use Rattle.dispatch_core.specs.JobRuns.{JobRuns, count_of}
use Rattle.group_jobs.specs.declared.fate.Fate.{Fate}
use Rattle.group_jobs.specs.declared.ledger.Ledger.{Ledger}
use Rattle.group_jobs.specs.Settled.{fates, settled_as}
use Rattle.shared_ledger.specs.declared.share.LedgerShare.{LedgerShare}

abbrev pub share : ℕ → List Ledger → List Ledger → LedgerShare
share parts hand gave = record { parts = parts; hand = hand; gave = gave }

-- a ledger in which nothing is settled, and which has no room
abbrev pub no_runs : JobRuns
no_runs = record { runs = []; spare = 0 }

abbrev pub no_jobs : Ledger
no_jobs = record { acknowledged = no_runs; refused = no_runs; discarded = no_runs }

-- how often a job was settled by a fate, in these ledgers together
abbrev pub times_in : List Ledger → Fate → Job → ℕ
times_in ledgers fate job = sum_by (λ ledger. count_of job (settled_as fate ledger)) ledgers

-- how many jobs a ledger has, of whatever fate
abbrev pub jobs_in : Ledger → ℕ
jobs_in ledger = sum_by (λ fate. length (settled_as fate ledger)) fates

-- the parts of two, and what both have in hands and gave
abbrev pub joined : LedgerShare → LedgerShare → LedgerShare
joined v w = share (v.parts + w.parts) (v.hand ++ w.hand) (v.gave ++ w.gave)

-- of so many parts
pub record Gives (items : List Ledger) (views : List LedgerShare) : Type 0 where
  pub parts : sum_by (λ v. v.parts) views ≡ 64
  -- there is one ledger
  pub one : length items + sum_by (λ v. length v.hand) views ≡ 1
  -- who has no part gave nothing
  pub idle : (pass : ℕ) (v : LedgerShare) → get_elem? views pass ≡ some v → v.parts ≡ 0 → v.gave ≡ []
  -- the ledger has each job, under each fate, as often as all gave it
  pub counts : (fate : Fate) (job : Job) → times_in items fate job + sum_by (λ v. times_in v.hand fate job) views ≡ sum_by (λ v. times_in v.gave fate job) views

-- the queue stood so, at a moment at which some pass had this view
pub record Stands (v : LedgerShare) (items : List Ledger) : Type 0 where
  pub views : List LedgerShare
  pub pass : ℕ
  pub there : get_elem? views pass ≡ some v
  pub holds : Gives items views

-- the ledger is in hands now
abbrev pub TakesUp : LedgerShare → Ledger → LedgerShare → Type 0
TakesUp old ledger new = new ≡ share old.parts (ledger ∷ []) old.gave

-- the ledger was put down as it was
abbrev pub PutsBack : LedgerShare → Ledger → LedgerShare → Type 0
PutsBack old ledger new = new ≡ share old.parts [] old.gave

-- a ledger has what was in hands, and this more
abbrev pub IsGivenMore : LedgerShare → Ledger → Ledger → Type 0
IsGivenMore v ledger more = (fate : Fate) (job : Job) → times_in (ledger ∷ []) fate job ≡ times_in v.hand fate job + times_in (more ∷ []) fate job

-- the ledger was put down with what was given more
pub record GivesMore (old : LedgerShare) (ledger : Ledger) (new : LedgerShare) : Type 0 where
  pub more : Ledger
  pub is : new ≡ share old.parts [] (old.gave ++ more ∷ [])
  pub counts : IsGivenMore old ledger more
