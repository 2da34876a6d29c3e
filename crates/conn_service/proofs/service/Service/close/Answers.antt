-- The close ends it.
use Rattle.std.proofs.Common.{false, inl, inr, refl, rules}
use Rattle.conn_service.proofs.service.Service.close.Goals as goal

pub returns-clause-all : goal.returns-clause-all
returns-clause-all g c done = inl (c.in_ok-step.ensures.last tt)

pub returns-in_err-step-clause-led : goal.returns-in_err-step-clause-led
returns-in_err-step-clause-led g c = let closed = c.step.ensures.led false c.requires.shut in record { led = closed.led; told = (closed.told, search rules) }

pub returns-clause-led : goal.returns-clause-led
returns-clause-led g c =
    let closed = c.step.ensures.led false c.requires.shut in record { led = closed.led; told = (closed.told, (λ none. inl (refl, inr (inl (c.in_ok-step.ensures.last tt))))) }
