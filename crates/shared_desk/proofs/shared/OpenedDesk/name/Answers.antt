-- No call was made yet.
use Rattle.std.proofs.Common.{ap}
use Rattle.group_jobs.specs.Stamps.{Held}
use Rattle.session_desk.specs.Calls.{Call}
use Rattle.call_history.specs.Callers.{CallerState}
use Rattle.shared_desk.proofs.Histories.{not_yet}
use Rattle.shared_desk.proofs.shared.OpenedDesk.name.Goals as goal

pub invariant_of-result : goal.invariant_of-result
invariant_of-result g c = not_yet g.P.HoldingPlace.has_out g.P.Place.slot_of g.P.Place.number_of c.name-history.result.2.calls (ap (λ (k : CallerState (Call Held g.row.P.Denot)). k.calls) c.name-history.ensures.caller)
