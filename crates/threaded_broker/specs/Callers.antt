-- Who calls the desk of a broker: its first caller, and its workers.
use Rattle.std.specs.Prelude.{◌≡◌, ℕ, ◌+◌, List, ◌++◌, sum_by}
use Rattle.std.specs.List.{AllByRecursion, flat_map}
use mathlib.Core.List.{IsPrefix}
use Rattle.group_jobs.specs.Stamps.{Held}
use Rattle.session_desk.specs.Calls.{Call}
use Rattle.group_queue.specs.Places.{PlaceState}
use Rattle.broker_groups.specs.Outs.{HasOut}
use Rattle.call_history.specs.Callers.{CallerState, all_parts, first_caller}
use Rattle.shared_desk.specs.Histories.{TakesEach}
use Rattle.shared_routes.specs.declared.new_shares.NewShares.{NewShares}

-- a caller of the desk
abbrev pub DeskCallerState : Type 0
DeskCallerState = CallerState (Call Held PlaceState)

-- it did nothing but put these places into a new desk, one after the other, and then gave parts of its right to call away
abbrev pub HasPutIn : DeskCallerState → List PlaceState → Type 0
HasPutIn caller places = TakesEach HasOut (λ (place : PlaceState). place.group) (λ (place : PlaceState). place.number) first_caller places (record caller { parts = all_parts })

-- a broker that is open: how many workers it has, what its table of routes does with a share that nobody declared, and the first caller of its desk
pub record BrokerState : Type 0 where
  pub workers : ℕ
  pub new_shares : NewShares
  pub caller : DeskCallerState

-- a caller took these others in: it knows what each of them knew, and has the calls of all, and their right to call
pub record HasTakenIn (old : DeskCallerState) (others : List DeskCallerState) (new : DeskCallerState) : Type 0 where
  pub before : IsPrefix old.calls new.calls
  pub each : AllByRecursion (λ (other : DeskCallerState). IsPrefix other.calls new.calls) others
  pub own : new.own ≡ old.own ++ flat_map (λ (other : DeskCallerState). other.own) others
  pub parts : new.parts ≡ old.parts + sum_by (λ (other : DeskCallerState). other.parts) others
