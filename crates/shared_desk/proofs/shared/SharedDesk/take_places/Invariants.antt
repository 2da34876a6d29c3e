-- What is still to be taken in, and where it leads.
use Rattle.std.proofs.Common.{◌≡◌, ℕ, List, [], All, reverse}
use Rattle.group_jobs.specs.Stamps.{Held}
use Rattle.session_desk.specs.Calls.{Call}
use Rattle.call_history.specs.Callers.{CallerState}
use Rattle.shared_desk.specs.Histories.{TakesEach}
use Rattle.shared_desk.proofs.shared.SharedDesk.take_places.Given as goal

-- nothing is out at those that are left, and who takes them in from here has taken in all
pub record Leaves {P : Type 0} (HasOut : P → List Held → Type 0) (slot_of number_of : P → ℕ) (first known : CallerState (Call Held P)) (all left : List P) : Type 0 where
  pub out : All (λ place. HasOut place []) left
  pub leads : (now : CallerState (Call Held P)) → TakesEach HasOut slot_of number_of known (reverse left) now → TakesEach HasOut slot_of number_of first (reverse all) now

abbrev pub invariant-places : goal.invariant-places
invariant-places g l = record {
  leaves : Leaves g.P.HoldingPlace.has_out g.P.Place.slot_of g.P.Place.number_of l.initial.me l.me l.initial.places.items l.places.items;
  right : l.me.parts ≡ l.initial.me.parts;
}

abbrev pub decreases-places : goal.decreases-places
decreases-places g l = goal.left-places g l
