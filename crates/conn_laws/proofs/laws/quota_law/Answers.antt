-- The quota and the limit, step by step.
use Rattle.conn_laws.proofs.Quotas.{within}
use Rattle.conn_laws.proofs.Limits as limits
use Rattle.conn_laws.proofs.laws.quota_law.Goals as goal

pub returns-clause-kept : goal.returns-clause-kept
returns-clause-kept g c number now phase phase' input packets next old new steps kept =
    within g.S.Supply.call g.P.Place.slot_of number now phase phase' input packets next old new steps kept

pub returns-clause-limited : goal.returns-clause-limited
returns-clause-limited g c number now limit phase phase' input packets next old new steps kept =
    limits.within g.S.Supply.call g.P.Place.slot_of limit number now phase phase' input packets next old new steps kept
