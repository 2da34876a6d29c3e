-- The client in the last cell is let go, and then the others.
use Rattle.std.proofs.Common.{◌≡◌, ℕ, List, [], ◌∷◌, ◌++◌, reverse, Option, sym, ap, subst, ◌∙◌}
use Rattle.std.proofs.lemmas.List.{reverse-append}
use Rattle.conn_supply.specs.SupplyCalls.{SupplyCall}
use Rattle.client_table.specs.Clients.{ClientState}
use Rattle.client_table.specs.Cells.{Abandons, AbandonsAll, AbandonsEach}

module _ {S P : Type 0} (call : S → SupplyCall P → S → Type 0) (slot_of : P → ℕ) where
  pub last_first : (old mid new : S) (cells front : List (Option (ClientState P))) (cell : Option (ClientState P)) (now : ℕ) → cells ≡ front ++ cell ∷ []
      → Abandons call slot_of old cell now mid → AbandonsEach call slot_of mid front now new → AbandonsEach call slot_of old cells now new
  last_first old mid new cells front cell now parts abandons others =
      subst (λ xs. AbandonsAll call slot_of old xs now new) (sym (ap reverse parts ∙ reverse-append front (cell ∷ []))) (mid, abandons, others)
