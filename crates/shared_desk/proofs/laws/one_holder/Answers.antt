use Rattle.session_desk.specs.Places.{cell_at}
use Rattle.shared_desk.proofs.Holders.{one_holder}
use Rattle.shared_desk.proofs.laws.one_holder.Goals as goal

pub returns : goal.returns
returns g c calls number one other history mine theirs =
    one_holder (λ place. cell_at (g.P.Place.slot_of place) (g.P.Place.number_of place)) calls number one other history.0 history.1.made mine theirs
