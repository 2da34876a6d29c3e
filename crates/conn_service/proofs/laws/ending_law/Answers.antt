-- It ends once, and is quiet then.
use Rattle.std.proofs.Common.{◌≡◌, [], refl}
use Rattle.std.specs.Option.{option_to_list}
use Rattle.conn_service.specs.Acts.{endings_of}
use Rattle.conn_service.specs.Services.{opened}
use Rattle.conn_service.proofs.Folding.{folded}
use Rattle.conn_service.proofs.Ended.{ending_on, quiet}
use Rattle.conn_service.proofs.laws.ending_law.Goals as goal

pub returns-clause-once : goal.returns-clause-once
returns-clause-once g c number opening first acts service supply supply' does =
    folded g.S.Supply.call g.S.Supply.begins g.S.Supply.ends g.S.Supply.visiting g.P.Place.slot_of g.T.Transport.counts g.T.Transport.given g.T.Transport.accepted
    (λ done service supply. endings_of done ≡ option_to_list service.ending)
    (λ done act old new supply supply' so one. ending_on g.S.Supply.call g.S.Supply.begins g.S.Supply.ends g.S.Supply.visiting g.P.Place.slot_of g.T.Transport.counts g.T.Transport.given g.T.Transport.accepted
    done act old new supply supply' so one) acts [] (opened number opening first) service supply supply' refl does

pub returns-clause-quiet : goal.returns-clause-quiet
returns-clause-quiet g c acts old new supply supply' ended does =
    quiet g.S.Supply.call g.S.Supply.begins g.S.Supply.ends g.S.Supply.visiting g.P.Place.slot_of g.T.Transport.counts g.T.Transport.given g.T.Transport.accepted acts old new supply supply' ended does
