-- Schedules: any steps of any seats, one after the other.
use Rattle.std.specs.Prelude.{◌≡◌, ℕ, ◌≤◌, List, [], ◌∷◌}
use mathlib.Core.Option.{some}
use lib.ListN.{get_elem?}
use Rattle.gate_word.specs.declared.step.GateView.{GateView}
use Rattle.gate_word.specs.Seats.{all_seats}
use Rattle.gate_word.specs.Kinds.{Kind, May, word_after, views_after}

-- some schedule leads from a gate that is opened with so many seats to this word and these views
pub data Reaches (seats : ℕ) : ℕ → List GateView → Type 0 where
  opened : seats ≤ 80 → Reaches seats 0 (all_seats seats ∷ [])
  made : {word : ℕ} {views : List GateView} (kind : Kind) (place : ℕ) (v : GateView) →
      Reaches seats word views → get_elem? views place ≡ some v → May kind word v →
      Reaches seats (word_after kind word) (views_after kind word views place v)

-- a moment of some schedule of a gate with as many seats as the view says, at which the word is this number and somebody has this view
abbrev pub Moment : ℕ → GateView → Type 0
Moment word v = (views : List GateView) × (place : ℕ) × Reaches v.seats word views × (get_elem? views place ≡ some v)
