-- A step has one outcome.
use Rattle.std.proofs.Common.{◌≡◌, refl}
use Rattle.conn_laws.proofs.OneStep.{stepped}
use Rattle.conn_laws.proofs.laws.one_step_law.Goals as goal

pub returns : goal.returns
returns g c number now phase one other input packets packets' next next' old new new' answers steps also =
    stepped g.S.Supply.call (λ these those. these ≡ those) answers g.P.Place.slot_of old new old new' number phase now input packets packets' next next' one other refl steps also
