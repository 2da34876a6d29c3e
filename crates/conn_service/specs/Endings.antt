-- A connection that is served to its end.
use Rattle.std.specs.Prelude.{◌≡◌, ◌⊎◌, ℕ, Bool, List, Option, Some}
use Rattle.transport.specs.declared.counts.Counts.{Counts}
use Rattle.conn_rules.specs.declared.client_limits.ClientLimits.{ClientLimits}
use Rattle.conn_supply.specs.SupplyCalls.{SupplyCall}
use Rattle.conn_engine.specs.declared.phase.ConnPhase.TheVariants.{Ended}
use Rattle.conn_service.specs.declared.served.Served.{Served}
use Rattle.conn_service.specs.declared.served.Served.TheVariants as served
use Rattle.conn_service.specs.Services.{ServiceState, opened}
use Rattle.conn_service.specs.Lives.{RoundsAll}

module _ {S P T : Type 0} (call : S → SupplyCall P → S → Type 0) (begins ends : S → S → Type 0) (visiting : S → Bool) (slot_of : P → ℕ)
    (counts : T → Counts) (given accepted : T → Option (List ℕ)) where
  -- rounds led a connection to its end, which was this, and left this transport
  pub record EndsAs (first : ServiceState P T) (supply : S) (how : Served) (transport : T) (supply' : S) : Type 0 where
    pub last : ServiceState P T
    pub moments : List ℕ
    pub led : RoundsAll call begins ends visiting slot_of counts given accepted moments first supply last supply'
    pub ending : last.ending ≡ Some how
    pub over : last.client.conn.phase ≡ Ended
    pub left : transport ≡ last.transport

  -- so it was from its opening, at some moment, with these limits; or there was no memory to open it, and nothing was asked of its transport
  abbrev pub IsServedToItsEnd : ℕ → ClientLimits → T → S → Served → T → S → Type 0
  IsServedToItsEnd number limits transport supply how transport' supply' =
      ((now : ℕ) × EndsAs (opened number (record { at = now; limits = limits }) transport) supply how transport' supply')
      ⊎ ((how ≡ served.Memory) × (transport' ≡ transport) × (supply' ≡ supply))
