-- The rule of the table with the gate's word: it has a past. What each step on it tells, and what stands behind a seat, a turn and a token.
use Rattle.std.specs.Prelude.{◌≡◌, ℕ, ◌==◌, if◌then◌else◌, [], ◌∷◌}
use Rattle.atomic_table.specs.Table.{State, Me}
use Rattle.atomic_table.specs.Seated.{TableId}
use Rattle.gate_word.specs.declared.step.GateView.{GateView}
use Rattle.gate_word.specs.declared.step.GateStep.TheVariants.{Looked}
use Rattle.gate_word.specs.Steps.{is_shut, SeatState, seat_state}
use Rattle.gate_word.specs.Steps.SeatState.{Outside, Inside, Bouncing}
use Rattle.gate_word.specs.Seats.{stepped, token}
use Rattle.gate_word.specs.Kinds.{Kind, May, view_after}
use Rattle.gate_word.specs.Kinds.Kind.{Enter, Bounce, LookDrained, Look}
use Rattle.gate_word.specs.Schedules.{Reaches, Moment}

-- a table with one word, to which and to whose views some schedule leads
abbrev pub HasPast : ℕ → State (Unit {0}) GateView → Type 0
HasPast seats s = (word : ℕ) × (s.words ≡ word ∷ []) × Reaches seats word s.views

-- the pass is of this table, which has a word
abbrev pub IsPassOf : TableId → TableId → Type 0
IsPassOf word pass = (word.words ≡ 1) × (pass ≡ word)

-- what the adding of 2 is, by the number that it finds
abbrev pub entry : ℕ → Kind
entry found = if is_shut found then Bounce else Enter

-- what a look is
abbrev pub look : ℕ → Kind
look found = if found == 1 then LookDrained else Look

-- the step was of this kind
abbrev pub Tells : (ℕ → Kind) → Me (Unit {0}) GateView → ℕ → Me (Unit {0}) GateView → Type 0
Tells kind before found now =
    Moment found before.0 × May (kind found) found before.0 × (now ≡ (view_after (kind found) found before.0, before.1))

-- a turn that saw the gate drained: nobody has this view
abbrev pub clash : GateView → GateView → GateView
clash turn witness = stepped (Looked 1) turn

-- what stands behind a value that is one seat: one view, and where it stands
pub record IsOneSeat (state : SeatState) (me : Me (Unit {0}) GateView) : Type 0 where
  pub bare : me.1 ≡ []
  pub one : me.0.count ≡ 1
  pub stands : seat_state me.0.steps ≡ state

abbrev pub IsSeat : Me (Unit {0}) GateView → Type 0
IsSeat me = IsOneSeat Outside me

abbrev pub IsTurn : Me (Unit {0}) GateView → Type 0
IsTurn me = IsOneSeat Inside me

abbrev pub IsBounced : Me (Unit {0}) GateView → Type 0
IsBounced me = IsOneSeat Bouncing me

-- what stands behind a token
abbrev pub IsToken : Me (Unit {0}) GateView → Type 0
IsToken me = me ≡ (token me.0.seats, [])
