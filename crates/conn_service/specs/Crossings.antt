-- A crossing that lets nobody pass.
use Rattle.std.specs.Prelude.{ℕ, ◌<◌}

-- in 10,000 turns, from 0 on, a crossing refused this worker
abbrev pub RefusesAlways : {X : Type 0} → (X → ℕ → ℕ → Type 0) → X → ℕ → Type 0
RefusesAlways refuses crossing worker = (turn : ℕ) → turn < 10000 → refuses crossing worker turn
