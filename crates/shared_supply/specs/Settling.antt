-- How a place settles a message, and when it gathers what it settled into its group's ledger.
use Rattle.std.specs.Prelude.{◌≡◌, ℕ, ◌%◌, ◌<◌, min, List, length, sum_by, Bool, true, false, Ok, Err}
use Rattle.group_jobs.specs.declared.error.JobError.TheVariants.{Memory}
use Rattle.group_jobs.specs.declared.fate.Fate.{Fate}
use Rattle.group_jobs.specs.Settled.{fates, runs_of}
use Rattle.group_jobs.specs.Stamps.{Held, job_of}
use Rattle.group_jobs.specs.declared.ledger.Ledger.{Ledger}
use Rattle.shared_ledger.specs.declared.share.LedgerShare.{LedgerShare}
use Rattle.group_queue.specs.Places.{PlaceState, GatherAnswers, IsSamePlace, SettlesHeld}

-- how many runs a place's docket has, of whatever fate, or 2^64 - 1 where they are more
abbrev pub runs_at : PlaceState → ℕ
runs_at place = min (sum_by (λ fate. length (runs_of fate place.docket.settled)) fates) 18446744073709551615

-- the docket, which had so many runs, has so many now: they are more, and a further 64 of them are full
abbrev pub IsDue : ℕ → ℕ → Type 0
IsDue before after = (before < after) × (after % 64 ≡ 0)

module _ (saw : List Ledger → List LedgerShare → Type 0) where
  -- the place gathered, and what it had settled is in the group's ledger; or that was missed, as an allocation failed, and the place is as it was
  abbrev pub Gathers : PlaceState → (is_missed : Bool) → PlaceState → Type 0
  Gathers old false new = GatherAnswers saw old (Ok true) new
  Gathers old true new = GatherAnswers saw old (Err Memory) new

  -- a message was settled at the place, and just where that filled a further 64 runs of its docket, the place gathered, or missed that
  pub record SettlesAndGathers (old : PlaceState) (envelope : Held) (fate : Fate) (is_missed : Bool) (new : PlaceState) : Type 0 where
    pub settled : PlaceState
    pub settles : SettlesHeld old (job_of envelope.stamp) fate settled
    pub same : IsSamePlace old settled
    pub due : IsDue (runs_at old) (runs_at settled) → Gathers settled is_missed new
    pub spared : ¬ IsDue (runs_at old) (runs_at settled) → (new ≡ settled) × (is_missed ≡ false)
