-- What the acts of a round tell: that more can be done at once, as a read gave as much as there was room for, the transport took something, or as many packets were
-- stepped as a round may step; or that a read gave less.
use Rattle.std.specs.Prelude.{◌≡◌, ◌≢◌, ◌⊎◌, ℕ, ◌+◌, ◌<◌, ◌≤◌, Bool, true, List, [], ◌∷◌, Option, None, Result, IfOk, OnOk, ⊤}
use Rattle.transport.specs.declared.counts.Counts.{Counts}
use Rattle.transport.specs.declared.answers.Got.{Got}
use Rattle.transport.specs.declared.answers.Got.TheVariants as got
use Rattle.transport.specs.declared.answers.Put.{Put}
use Rattle.transport.specs.declared.answers.Put.TheVariants as put
use Rattle.conn_supply.specs.SupplyCalls.{SupplyCall}
use Rattle.conn_engine.specs.declared.phase.ConnPhase.TheVariants.{Ended}
use Rattle.conn_service.specs.declared.served.Direction.{Direction}
use Rattle.conn_service.specs.declared.served.Round.{Round}
use Rattle.conn_service.specs.declared.served.Round.TheVariants as rounds
use Rattle.conn_service.specs.declared.served.Served.{Served}
use Rattle.conn_service.specs.Directions.{reads}
use Rattle.conn_service.specs.Services.{ServiceState, HasNoMore, most_packets}
use Rattle.conn_service.specs.Acts.{Act, Enters, Reads, Writes, BeginsByWriting, packets_in}
use Rattle.conn_service.specs.Visits.{Stand}
use Rattle.conn_service.specs.Moments.{drained_by}
use Rattle.conn_service.specs.Edges.{LeadsAtEdge}
use Rattle.conn_service.specs.Lives.{Leads, Rounds}

-- a read gave as much as there was room for, a byte at least
abbrev pub IsFilled : ℕ → Got → Type 0
IsFilled size (got.Bytes count) = (0 < count) × (size ≤ count)
IsFilled size got.Idle = ⊥
IsFilled size got.End = ⊥
IsFilled size got.Failed = ⊥

-- the transport took something
abbrev pub IsTaken : Put → Type 0
IsTaken (put.Wrote count) = ⊤
IsTaken put.Idle = ⊥
IsTaken put.Failed = ⊥

-- a read that gave as much as there was room for, or a write of which the transport took something
abbrev pub IsAdvance : Act → Type 0
IsAdvance (Reads size got bytes) = IsFilled size got
IsAdvance (Writes now put) = IsTaken put
IsAdvance _ = ⊥

-- one of these acts is such a one
abbrev pub HasAdvance : List Act → Type 0
HasAdvance [] = ⊥
HasAdvance (act ∷ acts) = IsAdvance act ⊎ HasAdvance acts

-- one of them is such a one, or as many packets were stepped as a round may step
abbrev pub HasProgressed : List Act → Type 0
HasProgressed acts = HasAdvance acts ⊎ (most_packets ≤ packets_in acts)

-- of the packets that may be stepped, these acts step no more than that; and where nothing failed, as many fewer are left then
abbrev pub CountsPackets : {A : Type 0} → Result A Served → ℕ → ℕ → List Act → Type 0
CountsPackets result before after acts = (packets_in acts ≤ before) × OnOk result (packets_in acts + after ≡ before)

-- a read that gave less than there was room for
abbrev pub IsShortRead : Act → Type 0
IsShortRead (Reads size got bytes) = drained_by got size ≡ true
IsShortRead _ = ⊥

abbrev pub HasShortRead : List Act → Type 0
HasShortRead [] = ⊥
HasShortRead (act ∷ acts) = IsShortRead act ⊎ HasShortRead acts

-- one of these acts begins a visit, and forgets that an earlier read gave less
abbrev pub Forgets : Act → Type 0
Forgets (Enters is_open reads) = reads ≡ true
Forgets _ = ⊥

abbrev pub HasForgotten : List Act → Type 0
HasForgotten [] = ⊥
HasForgotten (act ∷ acts) = Forgets act ⊎ HasForgotten acts

-- where nothing waits to be written, all is done that can be done at once, or these acts have got on
abbrev pub IsDoneOrAdvances : {P T : Type 0} → Bool → ServiceState P T → List Act → Type 0
IsDoneOrAdvances all new acts = new.outgoing ≡ [] → ((all ≡ true) × HasNoMore new) ⊎ HasProgressed acts

-- as long as the connection goes on, nothing was written, the transport took something, or something waits to be written
abbrev pub IsWrittenOn : {P T : Type 0} → ServiceState P T → ServiceState P T → List Act → Type 0
IsWrittenOn old new acts = new.ending ≡ None → (new ≡ old) ⊎ (HasAdvance acts ⊎ (new.outgoing ≢ []))

-- what waits is written first
abbrev pub WritesFirst : {P T : Type 0} → ServiceState P T → ServiceState P T → List Act → Type 0
WritesFirst old new acts = old.outgoing ≢ [] → new.ending ≡ None → BeginsByWriting acts

-- what the acts of a visit tell, in a round that reads
abbrev pub TellsOfVisit : {P T : Type 0} → Result Bool Served → ServiceState P T → List Act → Type 0
TellsOfVisit result new acts = IfOk result (λ all. IsDoneOrAdvances all new acts × ((new.client.conn.phase ≡ Ended) ⊎ HasForgotten acts))

-- and those of the whole round
abbrev pub TellsOfRound : {P T : Type 0} → Result Bool Served → ServiceState P T → List Act → Type 0
TellsOfRound result new acts = IfOk result (λ all. IsDoneOrAdvances all new acts × (new.outgoing ≡ [] → HasForgotten acts))

module _ {P T : Type 0} (counts : T → Counts) (given accepted : T → Option (List ℕ)) where
  -- acts towards the transport, of which this holds, lead from the one to the other
  pub record LeadsAtEdgeBy (Holds : List Act → Type 0) (now : ℕ) (stand : Stand) (old new : ServiceState P T) : Type 0 where
    pub led : LeadsAtEdge counts given accepted now stand old new
    pub told : Holds led.acts

module _ {S P T : Type 0} (call : S → SupplyCall P → S → Type 0) (begins ends : S → S → Type 0) (visiting : S → Bool) (slot_of : P → ℕ)
    (counts : T → Counts) (given accepted : T → Option (List ℕ)) where
  -- acts, of which this holds, lead from the one to the other
  pub record LeadsBy (Holds : List Act → Type 0) (now : ℕ) (from to : Stand) (old : ServiceState P T) (supply : S) (new : ServiceState P T) (supply' : S) : Type 0 where
    pub led : Leads call begins ends visiting slot_of counts given accepted now from to old supply new supply'
    pub told : Holds led.acts

  -- a round that goes this way, and tells this. One that reads tells that more can be done at once only where in this round a read gave as much as there was room
  -- for, the transport took something, or 64 packets were stepped; and that it waits for something to read only where in this round a read gave less
  pub record RoundsTo (direction : Direction) (round : Round) (now : ℕ) (old : ServiceState P T) (supply : S) (new : ServiceState P T) (supply' : S) : Type 0 where
    pub made : Rounds call begins ends visiting slot_of counts given accepted now old supply new supply'
    pub more : reads direction ≡ true → round ≡ rounds.More → HasProgressed made.led.acts
    pub drained : reads direction ≡ true → round ≡ rounds.Reading → HasShortRead made.led.acts
