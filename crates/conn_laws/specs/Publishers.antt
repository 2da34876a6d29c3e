-- Who offers a message to the groups: calls of a connection, which has a number.
use Rattle.std.specs.Prelude.{◌≡◌, ℕ, List}
use Rattle.std.specs.List.{AllByRecursion}
use Rattle.group_jobs.specs.declared.message.Message.{Message}
use Rattle.conn_supply.specs.SupplyCalls.{SupplyCall}
use Rattle.conn_laws.specs.Calls.{offered, MakesAll}

-- whatever these calls offer, they offer it from the connection of this number
abbrev pub AreFrom : {P : Type 0} → ℕ → List (SupplyCall P) → Type 0
AreFrom number supply_calls = AllByRecursion (λ (offer : ℕ × ℕ × Message). offer.1 ≡ number) (offered supply_calls)

-- some calls lead from the one to the other, and whatever they offer, they offer it from the connection of this number
pub record CallsFrom {S P : Type 0} (call : S → SupplyCall P → S → Type 0) (number : ℕ) (old new : S) : Type 0 where
  pub supply_calls : List (SupplyCall P)
  pub made : MakesAll call old supply_calls new
  pub from : AreFrom number supply_calls
