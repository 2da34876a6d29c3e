-- The quota of a cell, and its limit.
use Rattle.conn_laws.specs.Quotas.{IsWithinLimit, IsWithinQuota}
use Rattle.conn_laws.proofs.Limits as limited
use Rattle.conn_laws.proofs.Quotas as steps
use Rattle.client_table.proofs.Quotas as quotas
use Rattle.client_table.proofs.laws.quota_law.Goals as goal

pub returns-clause-opens : goal.returns-clause-opens
returns-clause-opens g c number opening before after opens within = quotas.opens number opening before after opens within

pub returns-clause-receives : goal.returns-clause-receives
returns-clause-receives g c now piece more result before after old new does within =
    quotas.receives g.S.Supply.call g.P.Place.slot_of IsWithinQuota tt (steps.within g.S.Supply.call g.P.Place.slot_of) result before old new now piece more after does within

pub returns-clause-ticks : goal.returns-clause-ticks
returns-clause-ticks g c now more result before after old new does within =
    quotas.ticks_for g.S.Supply.call g.P.Place.slot_of IsWithinQuota tt (steps.within g.S.Supply.call g.P.Place.slot_of) result before old new now more after does within

pub returns-clause-ends : goal.returns-clause-ends
returns-clause-ends g c now input more result before after old new does within =
    quotas.ends_for g.S.Supply.call g.P.Place.slot_of IsWithinQuota tt (steps.within g.S.Supply.call g.P.Place.slot_of) result before old new now input more after does within

pub returns-clause-opens_limited : goal.returns-clause-opens_limited
returns-clause-opens_limited g c limit number opening before after opens allowed within = quotas.limits limit number opening before after opens allowed within

pub returns-clause-receives_limited : goal.returns-clause-receives_limited
returns-clause-receives_limited g c limit now piece more result before after old new does within =
    quotas.receives g.S.Supply.call g.P.Place.slot_of (IsWithinLimit limit) tt (limited.within g.S.Supply.call g.P.Place.slot_of limit) result before old new now piece more after does within

pub returns-clause-ticks_limited : goal.returns-clause-ticks_limited
returns-clause-ticks_limited g c limit now more result before after old new does within =
    quotas.ticks_for g.S.Supply.call g.P.Place.slot_of (IsWithinLimit limit) tt (limited.within g.S.Supply.call g.P.Place.slot_of limit) result before old new now more after does within

pub returns-clause-ends_limited : goal.returns-clause-ends_limited
returns-clause-ends_limited g c limit now input more result before after old new does within =
    quotas.ends_for g.S.Supply.call g.P.Place.slot_of (IsWithinLimit limit) tt (limited.within g.S.Supply.call g.P.Place.slot_of limit) result before old new now input more after does within
