-- Both know what the one knew.
use Rattle.std.proofs.Common.{sym, subst}
use Rattle.group_jobs.specs.Stamps.{Held}
use Rattle.session_desk.specs.Calls.{Call}
use Rattle.call_history.specs.Callers.{CallerState}
use Rattle.shared_desk.specs.Histories.{IsHistory}
use Rattle.shared_desk.proofs.shared.SharedDesk.share.Goals as goal

pub invariant_of-me : goal.invariant_of-me
invariant_of-me g c = subst (λ (k : CallerState (Call Held g.row.P.Denot)). IsHistory g.P.HoldingPlace.has_out g.P.Place.slot_of g.P.Place.number_of k.calls) (sym c.share-caller.ensures.kept) c.me.invariant

pub invariant_of-result : goal.invariant_of-result
invariant_of-result g c = subst (λ (k : CallerState (Call Held g.row.P.Denot)). IsHistory g.P.HoldingPlace.has_out g.P.Place.slot_of g.P.Place.number_of k.calls) (sym c.share-caller.ensures.new) c.me.invariant
