-- From when on a worker drains.
use Rattle.std.specs.Prelude.{Bool, false}
use Rattle.worker_connections.specs.Chains.{Deed, Waited}

-- whether a deed is a wait whose poller told the worker to drain
abbrev pub tells_to_drain : {T : Type 0} → Deed T → Bool
tells_to_drain (Waited at_most now drains) = drains
tells_to_drain _ = false
