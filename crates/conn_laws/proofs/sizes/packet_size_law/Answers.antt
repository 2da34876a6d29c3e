-- No packet is longer than its client takes.
use Rattle.conn_laws.proofs.Fitting.{kept, fits, all_taken, as_named}
use Rattle.conn_laws.proofs.SameSize as same_size
use Rattle.conn_laws.proofs.sizes.packet_size_law.Goals as goal

pub returns-clause-kept : goal.returns-clause-kept
returns-clause-kept g c number now phase phase' input packets next old new new_empty steps holds =
    kept g.S.Supply.call g.P.Place.slot_of number now phase phase' input packets next old new new_empty steps holds

pub returns-clause-fits : goal.returns-clause-fits
returns-clause-fits g c number now phase phase' input packets next old new new_empty steps holds =
    fits g.S.Supply.call g.P.Place.slot_of number now phase phase' input packets next old new new_empty steps holds

pub returns-clause-named : goal.returns-clause-named
returns-clause-named g c number now phase phase' input packets next old new new_empty assigns steps holds =
    all_taken g.S.Supply.call g.P.Place.slot_of number now phase phase' input packets next old new new_empty assigns steps holds

pub returns-clause-same : goal.returns-clause-same
returns-clause-same g c number now phase phase' input packets next old new steps =
    as_named g.S.Supply.call g.P.Place.slot_of number now phase phase' input packets next old new steps

pub returns-clause-measured : goal.returns-clause-measured
returns-clause-measured g c maximum packet few takes = same_size.measured maximum packet few takes
