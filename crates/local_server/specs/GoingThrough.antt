-- One event after another, whether an allocation failed in them or not.
use Rattle.std.specs.Prelude.{◌≡◌, List, [], ◌∷◌, Result}
use Rattle.conn_supply.specs.declared.supply.NoMemory.{NoMemory}
use Rattle.client_table.specs.Clients.{StepOutput}
use Rattle.local_server.specs.declared.event.TimedEvent.{TimedEvent}
use Rattle.local_server.specs.Servers.{ServerState}
use Rattle.local_server.specs.Happening.{Happens}

-- these events happened to a server, each with what was said in it, and done or ended for lack of memory
abbrev pub GoesThrough : ServerState → List TimedEvent → ServerState → Type 0
GoesThrough old [] new = new ≡ old
GoesThrough old (first ∷ others) new =
    (mid : ServerState) × (outputs : List StepOutput) × (result : Result (Unit {0}) NoMemory)
    × Happens old first.moment first.event outputs result mid × GoesThrough mid others new
