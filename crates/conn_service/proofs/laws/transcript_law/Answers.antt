-- What a life sends is legal.
use Rattle.std.proofs.Common.{refl}
use Rattle.conn_service.specs.Services.{opened}
use Rattle.conn_service.proofs.Giving.{lives}
use Rattle.conn_service.proofs.laws.transcript_law.Goals as goal

pub returns : goal.returns
returns g c number opening first acts service supply supply' does =
    lives g.S.Supply.call g.S.Supply.begins g.S.Supply.ends g.S.Supply.visiting g.P.Place.slot_of g.T.Transport.counts g.T.Transport.given g.T.Transport.accepted
    opening acts (opened number opening first) service supply supply' refl does
