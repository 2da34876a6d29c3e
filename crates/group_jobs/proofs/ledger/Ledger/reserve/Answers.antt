-- Where memory was refused, one of the lists had no such room.
use Rattle.std.proofs.Common.{arith}
use Rattle.group_jobs.specs.declared.fate.Fate.TheVariants.{Acknowledged, Refused, Discarded}
use Rattle.group_jobs.proofs.ledger.Ledger.reserve.Goals as goal

pub returns-in_err-reserve-clause-full : goal.returns-in_err-reserve-clause-full
returns-in_err-reserve-clause-full c = λ room. absurd (omega (arith, room Acknowledged, c.in_err-reserve.ensures.full))

pub returns-in_err-reserve-2-clause-full : goal.returns-in_err-reserve-2-clause-full
returns-in_err-reserve-2-clause-full c = λ room. absurd (omega (arith, room Refused, c.in_err-reserve-2.ensures.full))

pub returns-in_err-reserve-3-clause-full : goal.returns-in_err-reserve-3-clause-full
returns-in_err-reserve-3-clause-full c = λ room. absurd (omega (arith, room Discarded, c.in_err-reserve-3.ensures.full))
