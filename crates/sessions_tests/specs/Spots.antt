-- The places of the tests.
use Rattle.std.specs.Prelude.{ℕ, List, ⊤}
use Rattle.group_jobs.specs.Stamps.{Held}
use Rattle.sessions_tests.specs.declared.spot.Spot.{Spot}
use Rattle.sessions_tests.specs.declared.spot.Spot.TheVariants.{First, Second}

abbrev pub number_of_spot : Spot → ℕ
number_of_spot First = 0
number_of_spot Second = 1

abbrev pub any_out : Spot → List Held → Type 0
any_out spot messages = ⊤
