-- A bell, and who uses it, as contracts see them.
use Rattle.std.specs.Prelude.{ℕ, List}
use Rattle.atomic_table.specs.Seated.{TableId}
use Rattle.bell.specs.declared.step.BellStep.{BellStep}

-- which bell it is, and how many workers listen to it
pub record BellId : Type 0 where
  pub word : TableId
  pub workers : ℕ

-- a worker that listens: its bell, its number, and the history up to its own last step
pub record ListenerState : Type 0 where
  pub bell : TableId
  pub worker : ℕ
  pub history : List BellStep

-- who rings
pub record RingerState : Type 0 where
  pub bell : TableId
  pub history : List BellStep

-- how many rings a word counts before it counts from 0 again: 2 ^ 32
abbrev pub turn : ℕ
turn = 4294967296
