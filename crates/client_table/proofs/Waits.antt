-- Whether a connection waits.
use Rattle.conn_engine.specs.declared.phase.ConnPhase.{ConnPhase}
use Rattle.conn_engine.specs.declared.phase.ConnPhase.TheVariants.{Unconnected, Waiting, Connected, Ended}
use Rattle.conn_engine.specs.Phases.{IsWaiting}

-- a connection of which it is not so that it does not wait, waits
pub waits : {P : Type 0} (phase : ConnPhase P) → ((IsWaiting phase → ⊥) → ⊥) → IsWaiting phase
waits (Unconnected opened) h = h (λ never. never)
waits (Waiting request ticks) h = tt
waits (Connected connected) h = h (λ never. never)
waits Ended h = h (λ never. never)
