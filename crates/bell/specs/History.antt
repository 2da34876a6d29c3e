-- The history of a bell: each step on its word, the newest first; and what it says.
use Rattle.std.specs.Prelude.{◌≡◌, ℕ, ◌+◌, ◌==◌, ◌||◌, if◌then◌else◌, Bool, true, false, List, [], ◌∷◌, ◌++◌}
use Rattle.bell.specs.declared.step.BellStep.{BellStep}
use Rattle.bell.specs.declared.step.BellStep.TheVariants.{Listened, Settled, Rang, Called}

-- how often the bell rang
abbrev pub rings : List BellStep → ℕ
rings [] = 0
rings (Listened worker ∷ before) = rings before
rings (Settled worker ∷ before) = rings before
rings (Rang ∷ before) = rings before + 1
rings (Called worker ∷ before) = rings before

-- a worker is idle where it settled, and has neither listened nor been called since
abbrev pub is_idle : ℕ → List BellStep → Bool
is_idle worker [] = false
is_idle worker (Listened other ∷ before) = if worker == other then false else is_idle worker before
is_idle worker (Settled other ∷ before) = if worker == other then true else is_idle worker before
is_idle worker (Rang ∷ before) = is_idle worker before
is_idle worker (Called other ∷ before) = if worker == other then false else is_idle worker before

-- the worker was called
abbrev pub was_called : ℕ → List BellStep → Bool
was_called worker [] = false
was_called worker (Listened other ∷ before) = was_called worker before
was_called worker (Settled other ∷ before) = was_called worker before
was_called worker (Rang ∷ before) = was_called worker before
was_called worker (Called other ∷ before) = (worker == other) || was_called worker before

-- the worker listened or was called
abbrev pub was_roused : ℕ → List BellStep → Bool
was_roused worker [] = false
was_roused worker (Listened other ∷ before) = (worker == other) || was_roused worker before
was_roused worker (Settled other ∷ before) = was_roused worker before
was_roused worker (Rang ∷ before) = was_roused worker before
was_roused worker (Called other ∷ before) = (worker == other) || was_roused worker before

-- how often a call found its worker idle
abbrev pub wakes : List BellStep → ℕ
wakes [] = 0
wakes (Listened worker ∷ before) = wakes before
wakes (Settled worker ∷ before) = wakes before
wakes (Rang ∷ before) = wakes before
wakes (Called worker ∷ before) = (if is_idle worker before then 1 else 0) + wakes before

-- the one history goes on from the other
abbrev pub GoesOn : List BellStep → List BellStep → Type 0
GoesOn old new = (since : List BellStep) × (new ≡ since ++ old)
