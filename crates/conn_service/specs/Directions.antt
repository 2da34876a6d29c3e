-- Which way a round goes.
use Rattle.std.specs.Prelude.{◌≡◌, ℕ, Bool, true, false, List, [], Option, None}
use Rattle.conn_service.specs.Services.{ServiceState}
use Rattle.conn_service.specs.declared.served.Direction.{Direction}
use Rattle.conn_service.specs.declared.served.Direction.TheVariants.{Both, Inbound, Outbound}

-- whether it reads
abbrev pub reads : Direction → Bool
reads Both = true
reads Inbound = true
reads Outbound = false

-- whether it writes what it says
abbrev pub writes : Direction → Bool
writes Both = true
writes Inbound = false
writes Outbound = true

-- A round at this moment went the way that it was told. Where it is not to read it read nothing, and it ticked, unless something is left to write or it
-- has ended; where it is not to write what it says, it wrote nothing but what waited before.
pub record Follows {P T : Type 0} (given accepted : T → Option (List ℕ)) (direction : Direction) (now : ℕ) (old new : ServiceState P T) : Type 0 where
  pub unread : reads direction ≡ false → given new.transport ≡ given old.transport
  pub ticks : reads direction ≡ false → new.ending ≡ None → new.outgoing ≡ [] → new.ticked ≡ now
  pub unwritten : writes direction ≡ false → old.outgoing ≡ [] → accepted new.transport ≡ accepted old.transport
