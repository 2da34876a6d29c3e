-- What stands behind a place. No public clause cites this module.
use Rattle.std.specs.Prelude.{◌≡◌, ℕ, ◌<◌, ◌≤◌, ◌-◌, [], All, Option, Some, None}
use Rattle.limits.specs.Limits.{most_members}
use Rattle.crossbeam_queue.specs.Passes.{view}
use Rattle.group_jobs.specs.Dockets.{Kept}
use Rattle.group_jobs.specs.Balance.{Balance}
use Rattle.shared_ledger.specs.Givers.{GiverState}
use Rattle.group_queue.specs.declared.place.Passes.{Passes}
use Rattle.group_queue.specs.declared.view.Name.TheVariants.{Place}
use Rattle.group_queue.specs.Views.{list_in, IsOf, keeper}
use Rattle.group_queue.specs.Returns.{bag, bag_of}
use Rattle.group_queue.specs.Ports.{Shape}
use Rattle.group_queue.specs.Places.{PlaceState, Hands, account_of}

abbrev pub hands_of : Passes → Hands
hands_of passes = record { main = passes.main.table_id; returns = record { web = passes.returns.web; heap = passes.returns.heap } }

-- what the passes of who opened the group tell of how many ports and places it gave away
abbrev pub shape_in : Option Passes → Option Shape
shape_in (Some passes) = Some (record { ports = (view passes.main).ports; places = (view passes.main).places })
shape_in None = None

abbrev pub place_of : ℕ → ℕ → Kept → Passes → Option Passes → GiverState → PlaceState
place_of group number docket passes kept giver =
    record {
      group = group;
      number = number;
      docket = docket;
      firsts = list_in (view passes.main);
      agains = (bag_of passes.returns).popped;
      given = (bag_of passes.returns).pushed;
      hands = hands_of passes;
      keeps = shape_in kept;
      giver = giver;
    }

-- the passes carry nothing
pub record AreBare (passes : Passes) : Type 0 where
  pub main : passes.main.me.1 ≡ []
  pub hand : passes.returns.me.hand ≡ None
  pub spare : passes.returns.me.spare ≡ None

-- the passes are those of this place, and the docket is in balance with what they know and with what was given
pub record IsInHands (number : ℕ) (docket : Kept) (passes : Passes) (giver : GiverState) : Type 0 where
  pub few : number < most_members
  pub main : IsOf (Place number) (view passes.main)
  pub part : (bag_of passes.returns).parts ≡ 1
  pub bare : AreBare passes
  pub balanced : Balance (account_of (place_of 0 number docket passes None giver))
  pub small : All (λ job. job.number < 18446744073709551615) docket.out

-- the passes are what is left of those of who opened the group
pub record AreLeft (passes left : Passes) : Type 0 where
  pub of : hands_of left ≡ hands_of passes
  pub main : view left.main ≡ keeper (view left.main).ports (view left.main).places
  pub parts : bag_of left.returns ≡ bag (64 - (view left.main).places) [] []
  pub few : (view left.main).places ≤ most_members
  pub bare : AreBare left

abbrev pub IsKept : Passes → Option Passes → Type 0
IsKept passes (Some left) = AreLeft passes left
IsKept passes None = Unit {0}
