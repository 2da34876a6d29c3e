-- Nothing is left to hand out.
use Rattle.conn_engine.specs.declared.phase.ConnPhase.TheVariants.{Connected}
use Rattle.conn_laws.proofs.Eager.{handed}
use Rattle.conn_laws.proofs.laws.eager_law.Goals as goal

pub returns : goal.returns
returns g c number now phase connected input packets next old new steps =
    handed g.S.Supply.call g.P.Place.slot_of steps.between now steps.mid new steps.sent (Connected connected) steps.hands
