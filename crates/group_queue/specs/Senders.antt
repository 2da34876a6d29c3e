-- What stands behind a port. No public clause cites this module.
use Rattle.std.specs.Prelude.{◌≡◌, ℕ, ◌≤◌, List, [], length}
use Rattle.limits.specs.Limits.{most_accepted}
use Rattle.crossbeam_queue.specs.Passes.{Pass, view}
use Rattle.group_queue.specs.declared.posted.Posted.{Posted}
use Rattle.group_queue.specs.declared.view.View.{View}
use Rattle.group_queue.specs.declared.view.Name.TheVariants.{Port}
use Rattle.group_queue.specs.Views.{list_in, IsOf}

abbrev pub sent_by : Pass Posted View → List Posted
sent_by pass = list_in (view pass)

-- the pass is that of this port and carries nothing
pub record IsSender (number : ℕ) (pass : Pass Posted View) : Type 0 where
  pub of : IsOf (Port number) (view pass)
  pub bare : pass.me.1 ≡ []

-- a port's messages are counted, and are no more than it may send
pub record IsCounted (number accepted : ℕ) (pass : Pass Posted View) : Type 0 where
  pub few : accepted ≤ most_accepted
  pub sender_is : IsSender number pass
  pub many : length (sent_by pass) ≡ accepted
