-- What both know is what one of them knew.
use Rattle.std.proofs.Common.{sym, subst, ⊎_elim}
use Rattle.shared_desk.specs.Histories.{IsHistory}
use Rattle.shared_desk.proofs.shared.SharedDesk.agree.Goals as goal

pub invariant_of-me : goal.invariant_of-me
invariant_of-me g c = ⊎_elim (λ same. subst (IsHistory g.P.HoldingPlace.has_out g.P.Place.slot_of g.P.Place.number_of) (sym same) c.me.invariant) (λ same. subst (IsHistory g.P.HoldingPlace.has_out g.P.Place.slot_of g.P.Place.number_of) (sym same) c.other.invariant) c.agree.ensures.one

pub returns-clause-legal : goal.returns-clause-legal
returns-clause-legal g c = ⊎_elim (λ same. subst (IsHistory g.P.HoldingPlace.has_out g.P.Place.slot_of g.P.Place.number_of) (sym same) c.me.invariant) (λ same. subst (IsHistory g.P.HoldingPlace.has_out g.P.Place.slot_of g.P.Place.number_of) (sym same) c.other.invariant) c.agree.ensures.one
