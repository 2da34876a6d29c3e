-- The end of a broker: its groups end with all that its desk had.
use Rattle.std.specs.Prelude.{◌≡◌, ℕ, List, Result}
use Rattle.group_jobs.specs.Stamps.{Held}
use Rattle.group_jobs.specs.declared.report.Report.{Report}
use Rattle.session_desk.specs.Books.{Books}
use Rattle.session_desk.specs.Everything.{HasAll}
use Rattle.session_desk.specs.Calls.{Call}
use Rattle.shared_desk.specs.Books.{IsLawful}
use Rattle.shared_desk.specs.Histories.{Leads}
use Rattle.shared_routes.specs.Cells.{RoutesId}
use Rattle.group_queue.specs.declared.finish.Unfinished.{Unfinished}
use Rattle.group_queue.specs.Ports.{GroupId, PortState}
use Rattle.group_queue.specs.Places.{PlaceState}
use Rattle.broker_groups.specs.Endings.{AreEnded, held_slot}
use Rattle.broker_groups.specs.Outs.{HasOut}
use Rattle.broker_groups.specs.Sorting.{at_slot}
use Rattle.shared_supply.specs.declared.ending.StillOpen.{StillOpen}
use Rattle.shared_supply.specs.declared.ending.StillOpen.TheVariants.{Desk, Groups}

-- a lawful desk, of which just these calls were made, one after the other, from a new desk on
pub record IsLedTo (calls : List (Call Held PlaceState)) (books : Books Held PlaceState) : Type 0 where
  pub led : Leads HasOut (λ (p : PlaceState). p.group) (λ (p : PlaceState). p.number) calls books
  pub lawful : IsLawful HasOut books

-- these places, and these messages that sessions held, were all that such a desk had
pub record IsAllBehind (calls : List (Call Held PlaceState)) (places : List PlaceState) (held : List Held) : Type 0 where
  pub books : Books Held PlaceState
  pub led : IsLedTo calls books
  pub all : HasAll books places held

-- each group ended with the ports that are its own, and with these places and messages, which were all that the desk had after these calls
pub record IsEndedWith {W : Type 0} (group : ℕ → GroupId) (calls : List (Call Held PlaceState)) (ports : List (List PortState)) (places : List PlaceState) (held : List Held)
    (answers : List (Result Report (Unfinished W))) (strangers : List Held) : Type 0 where
  pub had : IsAllBehind calls places held
  pub ended : AreEnded group ports places held answers
  pub strangers_are : strangers ≡ at_slot held_slot 8 held

-- so it is of some places and messages: by the calls they are given, but for their order
abbrev pub IsEnded : {W : Type 0} → (group : ℕ → GroupId) (calls : List (Call Held PlaceState)) (ports : List (List PortState)) (answers : List (Result Report (Unfinished W))) (strangers : List Held) → Type 0
IsEnded group calls ports answers strangers = (places : List PlaceState) × (held : List Held) × IsEndedWith group calls ports places held answers strangers

-- where an allocation failed, all that was given comes back: the ports, the routes, and the desk that these calls led to, or all that it had; the groups are the broker's, by their type
abbrev pub IsLeft : {B S : Type 0} → List (Call Held PlaceState) → RoutesId → List (List PortState) → StillOpen B S → Type 0
IsLeft calls routes ports (Desk desk groups back left) = IsLedTo calls desk × (back ≡ routes) × (left.items ≡ ports)
IsLeft calls routes ports (Groups unended back) = IsAllBehind calls unended.places.items unended.held.items × (back ≡ routes) × (unended.ports.items ≡ ports)
