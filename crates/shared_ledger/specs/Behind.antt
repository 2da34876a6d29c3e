-- What stands behind who gives and who has the ledger in hands. No public clause cites this module.
use Rattle.std.specs.Prelude.{◌≡◌, [], ◌∷◌, length}
use Rattle.crossbeam_queue.specs.Passes.{Pass, view}
use Rattle.dispatch_core.specs.declared.event.Job.{Job}
use Rattle.group_jobs.specs.declared.fate.Fate.{Fate}
use Rattle.group_jobs.specs.declared.ledger.Ledger.{Ledger}
use Rattle.shared_ledger.specs.declared.share.LedgerShare.{LedgerShare}
use Rattle.shared_ledger.specs.Giving.{times_in}
use Rattle.shared_ledger.specs.Givers.{GiverState, HolderState}

abbrev pub giver_of : Pass Ledger LedgerShare → GiverState
giver_of pass = record { ledger = pass.table_id; parts = (view pass).parts; gave = (view pass).gave }

abbrev pub holder_of : Pass Ledger LedgerShare → Ledger → HolderState
holder_of pass ledger = record { ledger = pass.table_id; parts = (view pass).parts; gave = (view pass).gave; settled = ledger }

-- the ledger is not in these hands
pub record IsFree (pass : Pass Ledger LedgerShare) : Type 0 where
  pub bare : pass.me.1 ≡ []
  pub hand : (view pass).hand ≡ []

-- this is the ledger that is in these hands, whatever its room
pub record IsHeld (pass : Pass Ledger LedgerShare) (ledger : Ledger) : Type 0 where
  pub bare : pass.me.1 ≡ []
  pub one : length (view pass).hand ≡ 1
  pub same : (fate : Fate) (job : Job) → times_in (ledger ∷ []) fate job ≡ times_in (view pass).hand fate job
