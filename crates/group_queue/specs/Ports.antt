-- Groups and ports as contracts see them.
use Rattle.std.specs.Prelude.{◌≡◌, ℕ, List, [], ◌<◌, length, slice_get, Some}
use Rattle.std.proofs.Common.{Global}
use Rattle.atomic_table.specs.Seated.{TableId}
use Rattle.crossbeam_queue.specs.SegTies.{SegId}
use Rattle.gate_word.specs.Seats.{GateId}
use Rattle.group_jobs.specs.declared.message.Message.{Message}
use Rattle.group_jobs.specs.declared.stamp.Stamp.{Stamp}
use Rattle.group_queue.specs.declared.posted.Posted.{Posted}

-- how many ports and places a group has
pub record Shape : Type 0 where
  pub ports : ℕ
  pub places : ℕ

-- which group it is: its slot, how many ports and places it has, how many messages wait in it at most, its gate, and its two
-- queues and its ledger, which no other group has
pub record GroupId : Type 0 where
  pub slot : ℕ
  pub shape : Shape
  pub capacity : ℕ
  pub gate : GateId
  pub main : TableId
  pub returns : SegId Global
  pub ledger : TableId

-- a port: its group's slot, its number, how many messages it has sent, and which, in order; and its group's main queue
pub record PortState : Type 0 where
  pub group : ℕ
  pub number : ℕ
  pub accepted : ℕ
  pub sent : List Posted
  pub queue : TableId

-- it is a port of this group
abbrev pub IsPortOf : GroupId → PortState → Type 0
IsPortOf group port = (port.group ≡ group.slot) × (port.number < group.shape.ports) × (port.queue ≡ group.main)

-- a port that has sent nothing
abbrev pub new_port : GroupId → ℕ → PortState
new_port group number = record { group = group.slot; number = number; accepted = 0; sent = []; queue = group.main }

-- these are all ports of a group, numbered from 0 on, and none has sent a message
pub record AreNewPorts (group : GroupId) (count : ℕ) (ports : List PortState) : Type 0 where
  pub all : length ports ≡ count
  pub each : (number : ℕ) → number < count → slice_get ports number ≡ Some (new_port group number)

-- a message, with the job that a port's next message is
abbrev pub next_posted : PortState → Message → Posted
next_posted port message = record { job = record { port = port.number; number = length port.sent }; message = message }

-- its stamp
abbrev pub next_stamp : PortState → Stamp
next_stamp port = record { group = port.group; port = port.number; number = length port.sent }
