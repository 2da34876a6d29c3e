-- What happens to a client comes out in one way.
use Rattle.std.proofs.Common.{◌≡◌, refl}
use Rattle.client_table.proofs.OneCell.{received, ticked_for, ended_for}
use Rattle.client_table.proofs.laws.one_outcome_law.Goals as goal

pub returns-clause-receives : goal.returns-clause-receives
returns-clause-receives g c now piece more more' before one other old new new' answers h k =
    received g.S.Supply.call (λ these those. these ≡ those) answers g.P.Place.slot_of before old new old new' now piece more more' one other refl h k

pub returns-clause-ticks : goal.returns-clause-ticks
returns-clause-ticks g c now more more' before one other old new new' answers h k =
    ticked_for g.S.Supply.call (λ these those. these ≡ those) answers g.P.Place.slot_of before old new old new' now more more' one other refl h k

pub returns-clause-ends : goal.returns-clause-ends
returns-clause-ends g c now input more more' before one other old new new' answers last h k =
    ended_for g.S.Supply.call (λ these those. these ≡ those) answers g.P.Place.slot_of before old new old new' now input more more' one other last refl h k
