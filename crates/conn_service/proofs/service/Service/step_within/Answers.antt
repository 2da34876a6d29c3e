-- In a visit of an open supply it goes on; in one that was refused it is closed.
use Rattle.std.proofs.Common.{arith}
use Rattle.conn_service.proofs.service.Service.step_within.Goals as goal

pub returns-then-is_open-clause-led : goal.returns-then-is_open-clause-led
returns-then-is_open-clause-led g c = rw c.if-is_open.true c.proceed.ensures.led

pub returns-else-is_open-clause-led : goal.returns-else-is_open-clause-led
returns-else-is_open-clause-led g c = rw c.if-is_open.false (record { led = c.close.ensures.led.led; told = (omega (arith, c.close.ensures.led.told.0), (λ reads. c.close.ensures.led.told.1)) })
