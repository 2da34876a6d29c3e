-- What is stepped is what was read.
use Rattle.std.proofs.Common.{[], refl}
use Rattle.conn_service.specs.Services.{opened}
use Rattle.conn_service.proofs.Folding.{folded}
use Rattle.conn_service.proofs.Read.{HasRead, so_far, read_on, unread_yet}
use Rattle.conn_service.proofs.laws.reading_law.Goals as goal

pub returns : goal.returns
returns g c number opening first acts service supply supply' does =
    so_far acts service
    (folded g.S.Supply.call g.S.Supply.begins g.S.Supply.ends g.S.Supply.visiting g.P.Place.slot_of g.T.Transport.counts g.T.Transport.given g.T.Transport.accepted
    (λ done service supply. HasRead done service)
    (λ done act old new supply supply' has one.
    read_on g.S.Supply.call g.S.Supply.begins g.S.Supply.ends g.S.Supply.visiting g.P.Place.slot_of g.T.Transport.counts g.T.Transport.given g.T.Transport.accepted done act old new supply
    supply' has one) acts [] (opened number opening first) service supply supply'
    (unread_yet g.S.Supply.call g.S.Supply.begins g.S.Supply.ends g.S.Supply.visiting g.P.Place.slot_of g.T.Transport.counts g.T.Transport.given g.T.Transport.accepted (opened number opening first) refl) does)
