-- How a state keeps its rows and lists. No public clause cites this module.
use Rattle.std.specs.Prelude.{◌≡◌, ℕ, Bool, List, [], length, slice_index_or}
use Rattle.limits.specs.Limits.{most_members, most_ports}
use Rattle.dispatch_core.specs.declared.event.Job.{Job}
use Rattle.dispatch_core.specs.declared.event.Spot.{Spot}
use Rattle.dispatch_core.specs.GroupState.{GroupState}
use Rattle.dispatch_core.specs.Lawful.{IsLawful}

abbrev pub state_of : List (List Spot) → List (List Job) → Bool → GroupState
state_of rows firsts closed = record { rows = rows; firsts = firsts; closed = closed }

-- there is a row for each port and a list for each member
pub record IsKept (rows : List (List Spot)) (firsts : List (List Job)) (closed : Bool) : Type 0 where
  pub ports : length rows ≡ most_ports
  pub members : length firsts ≡ most_members
  pub lawful : IsLawful (state_of rows firsts closed)

-- so many lists, each of them empty
pub record AreEmpty {T : Type 0} (lists : List (List T)) (count : ℕ) : Type 0 where
  pub many : length lists ≡ count
  pub empty : (k : ℕ) → slice_index_or lists k [] ≡ []
