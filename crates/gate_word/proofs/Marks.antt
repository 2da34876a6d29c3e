-- The marks that a seat's steps leave.
use Rattle.std.proofs.Common.{◌≡◌, ℕ, Bool, true, ◌||◌, true≢false, sym, ap, ◌∙◌}
use Rattle.std.specs.Prelude.{◌==◌}
use Rattle.std.specs.List.{list_any}
use Rattle.std.proofs.Math.Bool.{or-true}
use Rattle.gate_word.specs.declared.step.GateStep.{GateStep}
use Rattle.gate_word.specs.declared.step.GateStep.TheVariants.{Entered, Bounced, TakenOff, Left, Shut, Looked}
use Rattle.gate_word.specs.Steps.{has_shut, found_shut, knows_shut, saw_drained}
use Rattle.gate_word.specs.Seats.{Seat, view_of}
use Rattle.gate_word.specs.Kinds.{Kind, view_after}
use Rattle.gate_word.specs.Kinds.Kind.{Cut, Enter, Bounce, TakeOff, Leave, SetBit, LookDrained, Look, Witness}
use Rattle.gate_word.specs.Calls.{Makes}
use Rattle.gate_word.proofs.Moves.{finds_shut}

steps_are : (kind : Kind) (old new : Seat) (made : Makes kind old new) → new.steps ≡ (view_after kind made.0 (view_of old)).steps
steps_are kind old new made = ap (λ (s : Seat). s.steps) made.3

pub refused_mark : (old new : Seat) → Makes Bounce old new → found_shut new.steps ≡ true
refused_mark old new made =
    ap found_shut (steps_are Bounce old new made) ∙ ap (λ (b : Bool). b || found_shut old.steps) made.2.2

pub shut_mark : (old new : Seat) → Makes SetBit old new → has_shut new.steps ≡ true
shut_mark old new made = ap has_shut (steps_are SetBit old new made)

pub drained_mark : (old new : Seat) → Makes LookDrained old new → saw_drained new.steps ≡ true
drained_mark old new made =
    ap saw_drained (steps_are LookDrained old new made) ∙ ap (λ (n : ℕ). (n == 1) || saw_drained old.steps) made.2.0

-- a mark that some step left stays, whatever step comes after it
any_stays : (mark : GateStep → Bool) (kind : Kind) (found : ℕ) (old : Seat) → list_any mark old.steps ≡ true → list_any mark (view_after kind found (view_of old)).steps ≡ true
any_stays mark Cut found old marked = marked
any_stays mark Enter found old marked = ap (λ (b : Bool). mark (Entered found) || b) marked ∙ or-true (mark (Entered found))
any_stays mark Bounce found old marked = ap (λ (b : Bool). mark (Bounced found) || b) marked ∙ or-true (mark (Bounced found))
any_stays mark TakeOff found old marked = ap (λ (b : Bool). mark (TakenOff found) || b) marked ∙ or-true (mark (TakenOff found))
any_stays mark Leave found old marked = ap (λ (b : Bool). mark (Left found) || b) marked ∙ or-true (mark (Left found))
any_stays mark SetBit found old marked = ap (λ (b : Bool). mark (Shut found) || b) marked ∙ or-true (mark (Shut found))
any_stays mark LookDrained found old marked = ap (λ (b : Bool). mark (Looked found) || b) marked ∙ or-true (mark (Looked found))
any_stays mark Look found old marked = ap (λ (b : Bool). mark (Looked found) || b) marked ∙ or-true (mark (Looked found))
any_stays mark Witness found old marked = marked

pub mark_stays : (mark : GateStep → Bool) (kind : Kind) (old new : Seat) → Makes kind old new → list_any mark old.steps ≡ true → list_any mark new.steps ≡ true
mark_stays mark kind old new made marked = ap (list_any mark) (steps_are kind old new made) ∙ any_stays mark kind made.0 old marked

pub kept_out : (old new : Seat) → knows_shut old.steps ≡ true → ¬ Makes Enter old new
kept_out old new knows made = true≢false (sym (finds_shut made.0 (view_of old) made.1 knows) ∙ made.2.2)
