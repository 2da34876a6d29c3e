-- The life of a connection of a worker, from its opening on: rounds, each at its moment, whatever others do to the supply between them.
use Rattle.std.specs.Prelude.{◌≡◌, ℕ, ⊤, Bool, List, Option, Some, None}
use Rattle.transport.specs.declared.counts.Counts.{Counts}
use Rattle.transport.specs.Counting.{no_counts}
use Rattle.conn_supply.specs.SupplyCalls.{SupplyCall}
use Rattle.conn_engine.specs.declared.phase.Opening.{Opening}
use Rattle.conn_service.specs.Services.{ServiceState, opened}
use Rattle.conn_service.specs.Lives.{Lives}

module _ {S P T : Type 0} (call : S → SupplyCall P → S → Type 0) (begins ends : S → S → Type 0) (visiting : S → Bool) (slot_of : P → ℕ)
    (counts : T → Counts) (given accepted : T → Option (List ℕ)) where
  -- rounds led a connection here from its opening, over a transport of which nothing was asked before
  pub record HasLived (service : ServiceState P T) : Type 0 where
    pub number : ℕ
    pub opening : Opening
    pub transport : T
    pub fresh : counts transport ≡ no_counts
    pub before : S
    pub behind : S
    pub led : Lives call begins ends visiting slot_of counts given accepted (opened number opening transport) before service behind

  -- the same of the connection in a cell, where there is one
  abbrev pub IfLived : Option (ServiceState P T) → Type 0
  IfLived None = ⊤
  IfLived (Some service) = HasLived service
