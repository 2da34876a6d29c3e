-- A server on one thread: what its connections share, its clients, its clock and its limit.
use Rattle.std.specs.Prelude.{◌≡◌, ℕ, ◌<◌, List, Option, Some, None, replicate, slice_get, refl}
use Rattle.std.specs.Coded.{Coded, code_by, coded×}
use Rattle.client_table.specs.Clients.{ClientState}
use Rattle.local_broker.specs.Places.{GroupPlace}
use Rattle.local_broker.specs.Broker.{Broker, IsNewBroker}
use Rattle.conn_rules.specs.declared.setup.Setup.{Setup}

-- for each number the client of that connection, where one is open
abbrev pub Clients : Type 0
Clients = List (Option (ClientState GroupPlace))

-- no connection below this number is open
abbrev pub HasNoneBelow : ℕ → Clients → Type 0
HasNoneBelow number clients = (each : ℕ) → each < number → slice_get clients each ≡ Some None

pub record ServerState : Type 0 where
  pub broker : Broker
  pub clients : Clients
  -- the latest moment at which something happened
  pub clock : ℕ
  -- how many messages a client has unacknowledged at most, whatever its Receive Maximum
  pub max_inflight : ℕ

-- no connection, no session, the shares of the setup bound, and no message in any group
pub record IsNewServer (setup : Setup) (server : ServerState) : Type 0 where
  pub broker : IsNewBroker setup.capacity setup.groups server.broker
  pub clients : server.clients ≡ replicate 64 None
  pub clock : server.clock ≡ 0
  pub max_inflight : server.max_inflight ≡ setup.max_inflight

abbrev pub server_code : Coded Broker → Coded (Clients × (ℕ × ℕ)) → Coded ServerState
server_code broker others =
    code_by (Broker × (Clients × (ℕ × ℕ))) (coded× broker others) (λ s. (s.broker, (s.clients, (s.clock, s.max_inflight))))
    (λ p. record { broker = p.0; clients = p.1.0; clock = p.1.1.0; max_inflight = p.1.1.1 }) (λ _. refl)
