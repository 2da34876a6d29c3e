use Rattle.std.proofs.Common.{subst}
use Rattle.group_jobs.specs.Stamps.{Held}
use Rattle.session_desk.specs.Calls.{Call}
use Rattle.call_history.specs.Callers.{CallerState}
use Rattle.shared_desk.specs.Histories.{IsHistory}
use Rattle.shared_desk.proofs.caller.DeskCaller.is_history.Goals as goal

pub returns : goal.returns
returns g c = subst (λ (k : CallerState (Call Held g.row.P.Denot)). IsHistory g.P.HoldingPlace.has_out g.P.Place.slot_of g.P.Place.number_of k.calls) c.self.view_is c.self.invariant
