-- The quota is kept, and the limit of the opening.
use Rattle.std.proofs.Common.{[], arith}
use Rattle.conn_laws.specs.Quotas.{IsWithinLimit, IsWithinQuota}
use Rattle.conn_laws.proofs.Limits as limited
use Rattle.conn_laws.proofs.Quotas as steps
use Rattle.conn_service.specs.Services.{opened}
use Rattle.conn_service.proofs.Folding.{folded}
use Rattle.conn_service.proofs.Phases.{kept_on}
use Rattle.conn_service.proofs.laws.quota_law.Goals as goal

pub returns-clause-kept : goal.returns-clause-kept
returns-clause-kept g c number opening first acts service supply supply' does =
    folded g.S.Supply.call g.S.Supply.begins g.S.Supply.ends g.S.Supply.visiting g.P.Place.slot_of g.T.Transport.counts g.T.Transport.given g.T.Transport.accepted
    (λ done service supply. IsWithinQuota service.client.conn.phase)
    (λ done act old new supply supply' within one. kept_on g.S.Supply.call g.S.Supply.begins g.S.Supply.ends g.S.Supply.visiting g.P.Place.slot_of g.T.Transport.counts g.T.Transport.given g.T.Transport.accepted
    IsWithinQuota tt (steps.within g.S.Supply.call g.P.Place.slot_of) act old new supply supply' within one) acts [] (opened number opening first) service supply supply' tt does

pub returns-clause-limited : goal.returns-clause-limited
returns-clause-limited g c number opening first acts service supply supply' does =
    folded g.S.Supply.call g.S.Supply.begins g.S.Supply.ends g.S.Supply.visiting g.P.Place.slot_of g.T.Transport.counts g.T.Transport.given g.T.Transport.accepted
    (λ done service supply. IsWithinLimit opening.limits.max_inflight service.client.conn.phase)
    (λ done act old new supply supply' within one. kept_on g.S.Supply.call g.S.Supply.begins g.S.Supply.ends g.S.Supply.visiting g.P.Place.slot_of g.T.Transport.counts g.T.Transport.given g.T.Transport.accepted
    (IsWithinLimit opening.limits.max_inflight) tt (limited.within g.S.Supply.call g.P.Place.slot_of opening.limits.max_inflight) act old new supply supply' within one)
    acts [] (opened number opening first) service supply supply' (omega arith) does
