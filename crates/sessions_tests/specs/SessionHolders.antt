-- Where a call stands in a history.
use Rattle.std.specs.Prelude.{◌≡◌, List, ◌∷◌, ◌++◌}
use Rattle.group_jobs.specs.Stamps.{Held}
use Rattle.session_desk.specs.Calls.{Call}
use Rattle.sessions_tests.specs.declared.spot.Spot.{Spot}

-- it stands in it
abbrev pub Stands : Call Held Spot → List (Call Held Spot) → Type 0
Stands call calls = (before after : List (Call Held Spot)) × (calls ≡ before ++ call ∷ after)
