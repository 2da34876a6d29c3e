-- What is written begins what is said.
use Rattle.std.proofs.Common.{[], refl}
use Rattle.conn_service.specs.Services.{opened}
use Rattle.conn_service.specs.Transcripts.{WritesItsPackets}
use Rattle.conn_service.proofs.Folding.{folded}
use Rattle.conn_service.proofs.Written.{written_on, unwritten}
use Rattle.conn_service.proofs.laws.writing_law.Goals as goal

pub returns : goal.returns
returns g c number opening first acts service supply supply' does =
    folded g.S.Supply.call g.S.Supply.begins g.S.Supply.ends g.S.Supply.visiting g.P.Place.slot_of g.T.Transport.counts g.T.Transport.given g.T.Transport.accepted
    (λ done service supply. WritesItsPackets g.T.Transport.accepted first done service)
    (λ done act old new supply supply' kept one.
    written_on g.S.Supply.call g.S.Supply.begins g.S.Supply.ends g.S.Supply.visiting g.P.Place.slot_of g.T.Transport.counts g.T.Transport.given g.T.Transport.accepted first done act old new supply
    supply' kept one) acts [] (opened number opening first) service supply supply'
    (unwritten g.S.Supply.call g.S.Supply.begins g.S.Supply.ends g.S.Supply.visiting g.P.Place.slot_of g.T.Transport.counts g.T.Transport.given g.T.Transport.accepted first (opened number opening first)
    refl refl refl) does
