-- What a member is answered, as its group has it.
use Rattle.std.specs.Prelude.{List, Option, Result, Ok, Err, ⊤}
use Rattle.group_jobs.specs.declared.error.JobError.{JobError}
use Rattle.group_jobs.specs.declared.error.JobError.TheVariants.{Memory}
use Rattle.group_jobs.specs.Stamps.{Held}
use Rattle.group_jobs.specs.declared.ledger.Ledger.{Ledger}
use Rattle.shared_ledger.specs.declared.share.LedgerShare.{LedgerShare}
use Rattle.group_queue.specs.declared.posted.Posted.{Posted}
use Rattle.group_queue.specs.declared.view.Bag.{Bag}
use Rattle.group_queue.specs.declared.view.View.{View}
use Rattle.conn_supply.specs.declared.supply.NoMemory.{NoMemory}

-- what a group hands out, which is refused for lack of memory alone
abbrev pub in_group : Result (Option Held) NoMemory → Result (Option Held) JobError
in_group (Ok found) = Ok found
in_group (Err refusal) = Err Memory

-- what the witness of a broker's groups saw: of the queue of a group's ledger, of its main queue, and of its returns queue
abbrev pub Sights : Type 1
Sights = record {
  saw_ledger : List Ledger → List LedgerShare → Type 0;
  saw_main : List Posted → List View → Type 0;
  saw_returns : List Posted → List Bag → Type 0;
}

-- what a broker's witness saw where it has none: whatever stands there counts as seen
abbrev pub all_seen : Sights
all_seen = record { saw_ledger = λ items views. ⊤; saw_main = λ items views. ⊤; saw_returns = λ items views. ⊤ }
