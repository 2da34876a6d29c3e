-- In each sweep of a worker the sessions end that the desk hands out as over: that takes no Tick of a connection.
use Rattle.std.specs.Prelude.{◌≡◌, ◌⊎◌, ℕ}
use Rattle.group_queue.specs.Ports.{GroupId}
use Rattle.broker_groups.specs.Answers.{Sights}
use Rattle.worker_connections.specs.Serving.{ConnectionsState, RetiresAll, Rounds}

-- where a sweep began in a turn of a worker, they were retired at the moment of the turn, before its rounds
abbrev pub RetiresInSweep : {T : Type 0} → (ℕ → GroupId) → Sights → ConnectionsState T → ConnectionsState T → Type 0
RetiresInSweep {T} group seen old new =
    (new.sweeps.begun ≡ old.sweeps.begun)
    ⊎ ((from after : ConnectionsState T) × (from ≡ record old { sweeps = from.sweeps }) × (from.sweeps.latest ≡ old.sweeps.latest) × RetiresAll group seen from after × Rounds after new)
