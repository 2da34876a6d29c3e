-- The kinds of atomic step that a seat makes on the gate's word.
use Rattle.std.specs.Prelude.{◌≡◌, ℕ, ◌+◌, ◌-◌, ◌≤◌, ◌≢◌, true, false, List, [], ◌∷◌, ◌++◌, slice_set}
use Rattle.gate_word.specs.declared.step.GateView.{GateView}
use Rattle.gate_word.specs.declared.step.GateStep.TheVariants.{Entered, Bounced, TakenOff, Left, Shut, Looked}
use Rattle.gate_word.specs.Steps.{shut_bit, is_shut, seat_state, saw_drained}
use Rattle.gate_word.specs.Steps.SeatState.{Outside, Inside, Bouncing}
use Rattle.gate_word.specs.Seats.{stepped, cut_seat, rest_after_cut, token}

pub data Kind : Type 0 where
  -- `open` cuts a seat off those that it still has
  Cut : Kind
  -- `enter` into an open gate; `enter` into a shut one; and the taking off that follows the second
  Enter : Kind
  Bounce : Kind
  TakeOff : Kind
  Leave : Kind
  -- `shut`
  SetBit : Kind
  -- a look that finds 1; another look; and the making of the token that the first gives
  LookDrained : Kind
  Look : Kind
  Witness : Kind

-- where the word is this number, the holder of the view v may make the step: but for the cutting and the token, one seat
abbrev pub May : Kind → ℕ → GateView → Type 0
May Cut word v = (seat_state v.steps ≡ Outside) × (2 ≤ v.count)
May Enter word v = (seat_state v.steps ≡ Outside) × (v.count ≡ 1) × (is_shut word ≡ false)
May Bounce word v = (seat_state v.steps ≡ Outside) × (v.count ≡ 1) × (is_shut word ≡ true)
May TakeOff word v = seat_state v.steps ≡ Bouncing
May Leave word v = seat_state v.steps ≡ Inside
May SetBit word v = v.count ≡ 1
May LookDrained word v = (word ≡ 1) × (v.count ≡ 1)
May Look word v = (word ≢ 1) × (v.count ≡ 1)
May Witness word v = saw_drained v.steps ≡ true

-- what the step makes of the word
abbrev pub word_after : Kind → ℕ → ℕ
word_after Cut word = word
word_after Enter word = word + 2
word_after Bounce word = word + 2
word_after TakeOff word = word - 2
word_after Leave word = word - 2
word_after SetBit word = word + (1 - shut_bit word)
word_after LookDrained word = word
word_after Look word = word
word_after Witness word = word

-- and of the view of the seat that makes it
abbrev pub view_after : Kind → ℕ → GateView → GateView
view_after Cut word v = rest_after_cut v
view_after Enter word v = stepped (Entered word) v
view_after Bounce word v = stepped (Bounced word) v
view_after TakeOff word v = stepped (TakenOff word) v
view_after Leave word v = stepped (Left word) v
view_after SetBit word v = stepped (Shut word) v
view_after LookDrained word v = stepped (Looked word) v
view_after Look word v = stepped (Looked word) v
view_after Witness word v = v

-- and the view that it brings
abbrev pub new_views : Kind → GateView → List GateView
new_views Cut v = cut_seat v ∷ []
new_views Witness v = token v.seats ∷ []
new_views _ v = []

-- all views, where the seat at this place makes the step
abbrev pub views_after : Kind → ℕ → List GateView → ℕ → GateView → List GateView
views_after kind word views place v = slice_set views place (view_after kind word v) ++ new_views kind v
