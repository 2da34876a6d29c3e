use Rattle.std.proofs.Common.{ℕ, ◌<◌}
use Rattle.session_desk.specs.Places.{cell_at, IsFreeAt}
use Rattle.session_desk.proofs.places.FreePlaces.least.Given as goal

abbrev pub invariant-numbers : goal.invariant-numbers
invariant-numbers g l = (smaller : ℕ) (other : _) → smaller < l.number → IsFreeAt l.self (cell_at l.slot smaller) other → ⊥
