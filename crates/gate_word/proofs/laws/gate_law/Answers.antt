use Rattle.gate_word.proofs.EachKind.{schedule_keeps, stays_shut}
use Rattle.gate_word.proofs.AllOut.{all_outside, is_one}
use Rattle.gate_word.proofs.laws.gate_law.Goals as goal

pub returns-clause-holds : goal.returns-clause-holds
returns-clause-holds c seats word views reached = schedule_keeps seats word views reached

pub returns-clause-drained : goal.returns-clause-drained
returns-clause-drained c seats word views reached = (all_outside seats word views (schedule_keeps seats word views reached), is_one seats word views (schedule_keeps seats word views reached))

pub returns-clause-stays_shut : goal.returns-clause-stays_shut
returns-clause-stays_shut c kind seats word views place v law at may shut = stays_shut seats word views place v law at kind may shut
