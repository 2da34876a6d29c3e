-- What a broker promises of the messages of its groups: of each group whose report is given.
use Rattle.std.specs.Prelude.{◌≡◌, ℕ, List, slice_get, Some, Result, Ok, Err, ⊤}
use Rattle.group_jobs.specs.Stamps.{Held}
use Rattle.group_jobs.specs.declared.report.Report.{Report}
use Rattle.group_queue.specs.declared.error.Lack.TheVariants.{Port, Place, Envelope}
use Rattle.group_queue.specs.declared.error.FinishError.{FinishError}
use Rattle.group_queue.specs.declared.error.FinishError.TheVariants.{Missing, Stranger, Memory}
use Rattle.group_queue.specs.declared.finish.Unfinished.{Unfinished}
use Rattle.group_queue.specs.Ports.{GroupId, PortState}
use Rattle.group_queue.specs.Places.{PlaceState}
use Rattle.broker_groups.specs.Endings.{joined, port_slot, place_slot, held_slot}
use Rattle.broker_groups.specs.Sorting.{at_slot}
use Rattle.session_desk.specs.Calls.{Call}
use Rattle.shared_supply.specs.Endings.{IsEndedWith}
use Rattle.final_report.specs.Promises.{IsFirstHandedOnce, KeepsOrder, RefusesForGood, DiscardsForGood, GivesOneFate, TellsWhatHappened, EndsLawfully}

-- so it is of each group whose report is given, with the ports and places that are of its slot, and the messages that are out there
abbrev pub OfEachReport : {W : Type 0} → (List PortState → List PlaceState → List Held → Report → Type 0)
    → List (List PortState) → List PlaceState → List Held → List (Result Report (Unfinished W)) → Type 0
OfEachReport Promised ports places held answers = (slot : ℕ) (report : Report) → slice_get answers slot ≡ Some (Ok report)
    → Promised (at_slot port_slot slot (joined ports)) (at_slot place_slot slot places) (at_slot held_slot slot held) report

-- it is no message for which a group has no report: a port or a place of it is not there, or an allocation failed
abbrev pub LacksNoMessage : FinishError → Type 0
LacksNoMessage (Missing (Port number)) = ⊤
LacksNoMessage (Missing (Place number)) = ⊤
LacksNoMessage (Missing (Envelope stamp)) = ⊥
LacksNoMessage (Stranger stamp) = ⊥
LacksNoMessage Memory = ⊤

-- so it is of each group that has none
abbrev pub NoneLacksAMessage : {W : Type 0} → List (Result Report (Unfinished W)) → Type 0
NoneLacksAMessage {W = W} answers = (slot : ℕ) (left : Unfinished W) → slice_get answers slot ≡ Some (Err left) → LacksNoMessage left.error

-- a broker kept its promises: with these places, and these messages that sessions held, which were all that the desk had of which just these calls were made
pub record KeptItsPromises {W : Type 0} (group : ℕ → GroupId) (calls : List (Call Held PlaceState)) (ports : List (List PortState)) (places : List PlaceState) (held : List Held)
    (answers : List (Result Report (Unfinished W))) (strangers : List Held) : Type 0 where
  pub ended : IsEndedWith group calls ports places held answers strangers
  pub first_once : OfEachReport IsFirstHandedOnce ports places held answers
  pub in_order : OfEachReport KeepsOrder ports places held answers
  pub refused_for_good : OfEachReport RefusesForGood ports places held answers
  pub discarded_for_good : OfEachReport DiscardsForGood ports places held answers
  pub one_fate : OfEachReport GivesOneFate ports places held answers
  pub what_happened : OfEachReport TellsWhatHappened ports places held answers
  pub lawful : OfEachReport EndsLawfully ports places held answers
  -- what was out at a member's place is what a session held that the desk had, whichever worker ended it
  pub none_lacks : NoneLacksAMessage answers

-- the places and the messages that the desk had are given by its calls, but for their order
abbrev pub KeptItsPromisesBehind : {W : Type 0} → (group : ℕ → GroupId) (calls : List (Call Held PlaceState)) (ports : List (List PortState)) (answers : List (Result Report (Unfinished W)))
    (strangers : List Held) → Type 0
KeptItsPromisesBehind group calls ports answers strangers = (places : List PlaceState) × (held : List Held) × KeptItsPromises group calls ports places held answers strangers
