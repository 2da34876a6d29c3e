-- The number of the client in a cell.
use Rattle.std.specs.Prelude.{◌≡◌, ℕ, Option, Some, None, ⊤}
use Rattle.client_table.specs.Clients.{ClientState}

-- the connection of the client that is here, where one is, has this number
abbrev pub IsNumbered : {P : Type 0} → ℕ → Option (ClientState P) → Type 0
IsNumbered number None = ⊤
IsNumbered number (Some client) = client.conn.number ≡ number
