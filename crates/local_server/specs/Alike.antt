-- Servers that cannot be told apart.
use Rattle.std.specs.Prelude.{◌≡◌}
use Rattle.local_broker.specs.Alike as brokers
use Rattle.local_server.specs.Servers.{ServerState}

pub record AreAlike (one other : ServerState) : Type 0 where
  pub broker : brokers.AreAlike one.broker other.broker
  pub clients : one.clients ≡ other.clients
  pub clock : one.clock ≡ other.clock
  pub max_inflight : one.max_inflight ≡ other.max_inflight
