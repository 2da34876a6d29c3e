-- What stands in a history stands in all that go on from it.
use Rattle.std.proofs.Common.{List, [], ◌∷◌, ◌++◌, sym, ap, ◌∙◌, append_assoc}
use mathlib.Core.List.{IsPrefix}
use Rattle.group_jobs.specs.Stamps.{Held}
use Rattle.session_desk.specs.Calls.{Call}
use Rattle.call_history.specs.Callers.{CallerState}
use Rattle.shared_desk.specs.Histories.{AddsCall}
use Rattle.sessions_tests.specs.declared.spot.Spot.{Spot}
use Rattle.sessions_tests.specs.Spots.{any_out, number_of_spot}
use Rattle.sessions_tests.specs.SessionHolders.{Stands}

pub stands_on : (call : Call Held Spot) (calls more : List (Call Held Spot)) → Stands call calls → IsPrefix calls more → Stands call more
stands_on call calls more stands on = (
  stands.0,
  stands.1 ++ on.0,
  sym on.1 ∙ ap (λ l. l ++ on.0) stands.2 ∙ append_assoc stands.0 (call ∷ stands.1) on.0,
)

pub stands_told : (call : Call Held Spot) (old new : CallerState (Call Held Spot)) → AddsCall any_out (λ _. 3) number_of_spot old call new → Stands call new.calls
stands_told call old new told = (old.calls ++ told.since, [], ap (λ (c : CallerState (Call Held Spot)). c.calls) told.is)
