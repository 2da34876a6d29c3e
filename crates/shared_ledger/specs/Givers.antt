-- Who gives to a shared ledger, as contracts see it, and what `gather` makes of it.
use Rattle.std.specs.Prelude.{◌≡◌, ℕ, Bool, true, false, List, [], ◌∷◌, ◌++◌, Result, Ok, Err}
use Rattle.atomic_table.specs.Seated.{TableId}
use Rattle.crossbeam_queue.specs.Fifo.{Held}
use Rattle.dispatch_core.specs.declared.event.Job.{Job}
use Rattle.dispatch_core.specs.JobRuns.{count_of}
use Rattle.group_jobs.specs.declared.error.JobError.{JobError}
use Rattle.group_jobs.specs.declared.fate.Fate.{Fate}
use Rattle.group_jobs.specs.declared.ledger.Ledger.{Ledger}
use Rattle.group_jobs.specs.Settled.{settled_as, IsUnsettled}
use Rattle.group_jobs.specs.Dockets.{Kept}
use Rattle.shared_ledger.specs.declared.share.LedgerShare.{LedgerShare}
use Rattle.shared_ledger.specs.Giving.{share}
use Rattle.shared_ledger.specs.Witnesses.{SawLedger}

-- which ledger it is, how many of its parts this is, and what was given, in order
pub record GiverState : Type 0 where
  pub ledger : TableId
  pub parts : ℕ
  pub gave : List Ledger

-- a giver that gave nothing
abbrev pub new_giver : TableId → ℕ → GiverState
new_giver ledger parts = record { ledger = ledger; parts = parts; gave = [] }

-- who has the ledger in hands: which it is, the parts that came together here, what was given with them, and what is settled in it
pub record HolderState : Type 0 where
  pub ledger : TableId
  pub parts : ℕ
  pub gave : List Ledger
  pub settled : Ledger

-- the ledger was taken up, by who has no part of it
pub record IsNewHolder (ledger : TableId) (holder : HolderState) : Type 0 where
  pub of : holder.ledger ≡ ledger
  pub parts_are : holder.parts ≡ 0
  pub gave_none : holder.gave ≡ []

-- what was settled was given, and the docket keeps what is out
pub record GivesAll (old : GiverState) (before : Kept) (new : GiverState) (after : Kept) : Type 0 where
  pub given : Ledger
  pub is : new ≡ record old { gave = old.gave ++ given ∷ [] }
  pub counts : (fate : Fate) (job : Job) → count_of job (settled_as fate given) ≡ count_of job (settled_as fate before.settled)
  pub settled : IsUnsettled after.settled
  pub out : after.out ≡ before.out

-- nothing has changed where another had the ledger: the witness saw the queue empty at one moment of the call; nor where there was
-- no memory
abbrev pub Gathers : (List Ledger → List LedgerShare → Type 0) → GiverState → Kept → Result Bool JobError → GiverState → Kept → Type 0
Gathers saw old before (Ok true) new after = GivesAll old before new after
Gathers saw old before (Ok false) new after = (new ≡ old) × (after ≡ before) × Held 0 (SawLedger saw (share old.parts [] old.gave))
Gathers saw old before (Err refusal) new after = (new ≡ old) × (after ≡ before)
