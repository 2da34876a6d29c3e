-- Reasons why an event may not happen.
use Rattle.std.proofs.Common.{◌≡◌, ℕ, ◌<◌, false, List, [], length, get_or, Some, Result, Ok, Err, IfErr, sym, ap, ◌∙◌, arith}
use Rattle.std.proofs.lemmas.Bool.{false≢true}
use Rattle.std.proofs.lemmas.List.{get_or_read}
use Rattle.dispatch_core.specs.declared.event.Job.{Job}
use Rattle.dispatch_core.specs.declared.event.Event.{Event}
use Rattle.dispatch_core.specs.declared.event.Event.TheVariants.{First}
use Rattle.dispatch_core.specs.declared.event.Spot.{Spot}
use Rattle.dispatch_core.specs.declared.event.Spot.TheVariants.{Queued}
use Rattle.dispatch_core.specs.declared.error.Why.{Why}
use Rattle.dispatch_core.specs.declared.error.Why.TheVariants.{Range, Closed, NotQueued, NotOldest, NotHeld, NotReturned}
use Rattle.dispatch_core.specs.GroupState.{GroupState, spot_of, row_of}
use Rattle.dispatch_core.specs.Step.{IsInRange, NeedsOpen}
use Rattle.dispatch_core.specs.Reasons.{Hinders, place_of, IsStuck}
use Rattle.dispatch_core.specs.Rows.{IsOldestUnless}

-- neither of the first two reasons
none_before : (state : GroupState) (event : Event) → IsInRange event → (NeedsOpen event → state.closed ≡ false) → (why : Why) → place_of why < 2 → ¬ Hinders state event why
none_before state event range is_open Range less hinders = hinders range
none_before state event range is_open Closed less hinders = false≢true (sym (is_open hinders.0) ∙ hinders.1)
none_before state event range is_open NotQueued less hinders = omega arith
none_before state event range is_open NotOldest less hinders = omega arith
none_before state event range is_open NotHeld less hinders = omega arith
none_before state event range is_open NotReturned less hinders = omega arith

-- nor the third, where the job is queued
none_before_oldest : (state : GroupState) (member : ℕ) (job : Job) → IsInRange (First member job) → state.closed ≡ false → spot_of state job ≡ Some Queued → (why : Why) → place_of why < 3 → ¬ Hinders state (First member job) why
none_before_oldest state member job range is_open queued Range less hinders = hinders range
none_before_oldest state member job range is_open queued Closed less hinders = false≢true (sym is_open ∙ hinders.1)
none_before_oldest state member job range is_open queued NotQueued less hinders = hinders queued
none_before_oldest state member job range is_open queued NotOldest less hinders = omega arith
none_before_oldest state member job range is_open queued NotHeld less hinders = omega arith
none_before_oldest state member job range is_open queued NotReturned less hinders = omega arith

-- a first hand-out of a job that is not the oldest queued one of its port
pub stuck_first : {T : Type 0} (result : Result T Why) (state : GroupState) (member : ℕ) (job : Job) → IsInRange (First member job) → state.closed ≡ false → IsOldestUnless (row_of state job.port) job.number result → IfErr result (IsStuck state (First member job))
stuck_first (Ok done) state member job range is_open unless = tt
stuck_first (Err Range) state member job range is_open unless = absurd unless
stuck_first (Err Closed) state member job range is_open unless = absurd unless
stuck_first (Err NotQueued) state member job range is_open unless =
    record { hindered = λ may. unless may.ready.0; reason = record { holds = unless; first = none_before state (First member job) range (λ needs. is_open) } }
stuck_first (Err NotOldest) state member job range is_open unless =
    record { hindered = λ may. may.ready.1 unless.1; reason = record { holds = unless.1; first = none_before_oldest state member job range is_open unless.0 } }
stuck_first (Err NotHeld) state member job range is_open unless = absurd unless
stuck_first (Err NotReturned) state member job range is_open unless = absurd unless

-- a row that is read
pub row_read : (rows : List (List Spot)) (port at : ℕ) (row : List Spot) → at ≡ port → port < 64 → length rows ≡ 64 → row ≡ get_or rows at row → row ≡ get_or rows port []
row_read rows port at row same small many read = get_or_read rows at row (omega arith) read [] ∙ ap (λ p. get_or rows p []) same
