-- The quota of each client (section 4.9).
use Rattle.std.specs.Prelude.{ℕ, Option, Some, None, ⊤}
use Rattle.conn_engine.specs.declared.phase.ConnPhase.{ConnPhase}
use Rattle.conn_laws.specs.Quotas.{IsWithinLimit, IsWithinQuota}
use Rattle.client_table.specs.Clients.{ClientState}

-- this holds of the connection of a number, where there is one
abbrev pub HoldsInCell : {P : Type 0} → (ConnPhase P → Type 0) → Option (ClientState P) → Type 0
HoldsInCell Holds None = ⊤
HoldsInCell Holds (Some client) = Holds client.conn.phase

-- of the PUBLISH packets that were sent to the client of a number, where there is one, no more are unacknowledged than its quota
abbrev pub IsCellWithinQuota : {P : Type 0} → Option (ClientState P) → Type 0
IsCellWithinQuota cell = HoldsInCell IsWithinQuota cell

-- and it is let have no more than this limit
abbrev pub IsCellWithinLimit : {P : Type 0} → ℕ → Option (ClientState P) → Type 0
IsCellWithinLimit limit cell = HoldsInCell (IsWithinLimit limit) cell
