-- The rule of the table with the bell's word: there is one history, which the word shows, and with which all that anybody knows agrees.
use Rattle.std.specs.Prelude.{◌≡◌, ℕ, ◌/◌, ◌%◌, ◌^◌, ◌*◌, ◌<◌, if◌then◌else◌, List, [], ◌∷◌, ◌++◌, All}
use Rattle.std.specs.Int.{bit_at, bit_not, w64}
use Rattle.atomic_table.specs.Table.{State, Me}
use Rattle.atomic_table.specs.Seated.{TableId}
use Rattle.bell.specs.declared.step.BellStep.{BellStep}
use Rattle.bell.specs.declared.step.BellView.{BellView}
use Rattle.bell.specs.History.{rings, is_idle, GoesOn}
use Rattle.bell.specs.Handles.{turn}

-- the bits from 32 on count the rings, and the bits below tell who is idle
pub record Shows (word : ℕ) (history : List BellStep) : Type 0 where
  pub rung : word / turn ≡ rings history % turn
  pub idle : (worker : ℕ) → worker < 32 → bit_at word worker ≡ (if is_idle worker history then 1 else 0)

abbrev pub HasPast : State (Unit {0}) BellView → Type 0
HasPast s = (history : List BellStep) × (word : ℕ) × (s.words ≡ word ∷ []) × Shows word history × All (λ v. GoesOn v.history history) s.views

-- the pass is of this table, which has a word
abbrev pub IsPassOf : TableId → TableId → Type 0
IsPassOf word pass = (word.words ≡ 1) × (pass ≡ word)

-- the step was made after what was known and what others did since, where the word was this number
abbrev pub Tells : BellStep → Me (Unit {0}) BellView → ℕ → Me (Unit {0}) BellView → Type 0
Tells step before found now =
    (since : List BellStep) × Shows found (since ++ before.0.history) × (now ≡ (record { history = step ∷ (since ++ before.0.history) }, before.1))

-- a number with the worker's bit alone, and one with all others, as the machine makes them
abbrev pub bit_of : ℕ → ℕ
bit_of worker = 1 * 2 ^ worker % 2 ^ 64

abbrev pub all_but : ℕ → ℕ
all_but worker = bit_not w64 (bit_of worker)

-- the step was one of the worker that this operand names
abbrev pub TellsOfOne : (ℕ → BellStep) → (ℕ → ℕ) → ℕ → Me (Unit {0}) BellView → ℕ → Me (Unit {0}) BellView → Type 0
TellsOfOne step operand given before found now =
    (worker : ℕ) × (worker < 32) × (given ≡ operand worker) × Tells (step worker) before found now

-- who knows nothing yet
abbrev pub IsNew : Me (Unit {0}) BellView → Type 0
IsNew me = me ≡ (record { history = [] }, [])
