use Rattle.std.proofs.Common.{sym, subst, ◌∙◌}
use Rattle.session_desk.specs.Sessions.{IsOver}
use Rattle.session_desk.proofs.Kept.{same_parked}
use Rattle.session_desk.proofs.sweeping.due_from.Goals as goal

pub returns-in-Parked : goal.returns-in-Parked
returns-in-Parked g c = λ now over.
    c.over_from.ensures now (subst (λ s. IsOver s.expiry now) (sym (same_parked c.in-Parked.session over.0 (sym c.in-Parked.is ∙ over.1))) over.2)
