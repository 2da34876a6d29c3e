-- In a sweep something is offered to the members of each group: one that reads and has room may be handed a message then, whatever the other workers have.
use Rattle.std.specs.Prelude.{◌≡◌, ◌⊎◌, ℕ, ◌<◌, ◌≤◌, List, length, Option, ⊤}
use Rattle.limits.specs.Limits.{most_groups}
use Rattle.transport.specs.declared.counts.Counts.{Counts}
use Rattle.group_queue.specs.Ports.{GroupId}
use Rattle.broker_groups.specs.Answers.{Sights}
use Rattle.conn_service.specs.declared.served.Direction.TheVariants.{Outbound}
use Rattle.conn_service.specs.declared.served.Round.{Round}
use Rattle.conn_service.specs.declared.served.Round.TheVariants as rounds
use Rattle.worker_connections.specs.declared.cell_outcome.CellOutcome.{CellOutcome}
use Rattle.worker_connections.specs.declared.cell_outcome.CellOutcome.TheVariants.{Goes}
use Rattle.worker_connections.specs.Members.{TakesIn}
use Rattle.worker_connections.specs.Serving.{ConnectionsState, GoesBy, Rounds, StaysOf}

-- a connection that waits for this has not ended, and does not have to wait until its client reads
abbrev pub GoesOn : Round → Type 0
GoesOn rounds.More = ⊤
GoesOn rounds.Reading = ⊤
GoesOn rounds.Writing = ⊥
GoesOn rounds.Waiting = ⊤
GoesOn (rounds.Ended how) = ⊥

-- it was so somewhere between rounds of these connections
abbrev pub Amid : {T : Type 0} → (ConnectionsState T → ConnectionsState T → Type 0) → ConnectionsState T → ConnectionsState T → Type 0
Amid {T} Does old new = (before after : ConnectionsState T) × Rounds old before × Does before after × Rounds after new

module _ {T : Type 0} (group : ℕ → GroupId) (seen : Sights) (counts : T → Counts) (given accepted : T → Option (List ℕ)) where
  -- the client in a cell had an outbound round, in which it might be handed a message
  pub record MightTake (cell : ℕ) (cell_outcome : CellOutcome T) (old new : ConnectionsState T) : Type 0 where
    pub most : ℕ
    pub some : 1 ≤ most
    pub goes : GoesBy group seen counts given accepted cell Outbound most cell_outcome old new

  -- the client in a cell is no member of the group of this slot that has room; or it had such a round
  abbrev pub IsAsked : (slot cell : ℕ) → ConnectionsState T → ConnectionsState T → Type 0
  IsAsked slot cell old new = (¬ TakesIn slot cell old.cells × (new ≡ old)) ⊎ ((cell_outcome : CellOutcome T) × MightTake cell cell_outcome old new)

  -- a member that has room had such a round, and neither ended nor has to wait until it reads
  pub record IsOffered (slot : ℕ) (old new : ConnectionsState T) : Type 0 where
    pub cell : ℕ
    pub round : Round
    pub takes : TakesIn slot cell old.cells
    pub might : MightTake cell (Goes round) old new
    pub reads : GoesOn round

  -- a member of the group was offered one; or each client was asked, and those that are members with room do not read
  abbrev pub Offers : (slot : ℕ) → ConnectionsState T → ConnectionsState T → Type 0
  Offers slot old new = Amid (IsOffered slot) old new ⊎ ((cell : ℕ) → cell < length old.cells → Amid (IsAsked slot cell) old new)

  -- the same of each group
  abbrev pub OffersEach : ConnectionsState T → ConnectionsState T → Type 0
  OffersEach old new = (slot : ℕ) → slot < most_groups → Amid (Offers slot) old new

  -- where a sweep began in a turn of a worker, it was so at a moment of that turn
  abbrev pub OffersInSweep : ConnectionsState T → ConnectionsState T → Type 0
  OffersInSweep old new = (new.sweeps.begun ≡ old.sweeps.begun) ⊎ ((from : ConnectionsState T) × StaysOf old from × OffersEach from new)
