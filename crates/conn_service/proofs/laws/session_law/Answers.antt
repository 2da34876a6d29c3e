-- Each step keeps its session.
use Rattle.conn_service.proofs.Sessions.{tells}
use Rattle.conn_service.proofs.laws.session_law.Goals as goal

pub returns : goal.returns
returns g c act old new supply supply' does =
    tells g.S.Supply.call g.S.Supply.begins g.S.Supply.ends g.S.Supply.visiting g.P.Place.slot_of g.T.Transport.counts g.T.Transport.given g.T.Transport.accepted act old new supply supply' does
