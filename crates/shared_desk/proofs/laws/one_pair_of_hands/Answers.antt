use Rattle.session_desk.specs.Places.{cell_at}
use Rattle.shared_desk.proofs.Parts.{hands, between}
use Rattle.shared_desk.proofs.laws.one_pair_of_hands.Goals as goal

pub returns-clause-hands : goal.returns-clause-hands
returns-clause-hands g c calls number history = hands (λ place. cell_at (g.P.Place.slot_of place) (g.P.Place.number_of place)) calls history.0 number history.1.made

pub returns-clause-between : goal.returns-clause-between
returns-clause-between g c before within after one other number history none out again =
    between (λ place. cell_at (g.P.Place.slot_of place) (g.P.Place.number_of place)) before within after one other history.0 number history.1.made none out again
