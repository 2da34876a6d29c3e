-- A connection of a broker that closes is over.
use Rattle.std.proofs.Common.{◌≡◌, ℕ, inl, inr}
use Rattle.conn_supply.specs.SupplyCalls.{SupplyCall}
use Rattle.conn_engine.specs.declared.input.Input.TheVariants as inputs
use Rattle.conn_engine.specs.declared.phase.ConnPhase.TheVariants.{Ended}
use Rattle.conn_laws.proofs.Ended.{ends_by}
use Rattle.client_table.specs.Clients.{ClientState, moment_of, IsGivenUp}

module _ {S P : Type 0} (call : S → SupplyCall P → S → Type 0) (slot_of : P → ℕ) where
  pub is_over : (old new : S) (client client' : ClientState P) (now : ℕ) → IsGivenUp call slot_of old client now inputs.Closing client' new → client'.conn.phase ≡ Ended
  is_over old new client client' now (inl moved) =
      ends_by call slot_of old new client.conn.number (moment_of client now) client.conn.phase client'.conn.phase inputs.Closing moved.0.packets moved.0.next moved.1.stepped tt
  is_over old new client client' now (inr failed) = failed.over
