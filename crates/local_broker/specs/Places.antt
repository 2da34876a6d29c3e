-- The places of a broker on one thread: eight groups of 32.
use Rattle.std.specs.Prelude.{ℕ, ◌/◌, ◌%◌, List, ⊤}
use Rattle.group_jobs.specs.Stamps.{Held}
use Rattle.session_desk.specs.Places.{cell_at}

-- the place of this number in the group of this slot
pub record GroupPlace : Type 0 where
  pub slot : ℕ
  pub number : ℕ

-- where the desk has it while it is free
abbrev pub cell_of : GroupPlace → ℕ
cell_of place = cell_at place.slot place.number

-- a place keeps no account of what is out at it: its group does
abbrev pub has_out : GroupPlace → List Held → Type 0
has_out place all = ⊤

-- which place a cell is for
abbrev pub place_at : ℕ → GroupPlace
place_at cell = record { slot = cell / 32; number = cell % 32 }
