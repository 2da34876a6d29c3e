-- Runs, one event longer.
use Rattle.std.proofs.Common.{ℕ, ◌+◌, ◌<◌, List, [], ◌∷◌, ◌++◌, length, take, get_or, refl, sym, subst}
use Rattle.std.proofs.lemmas.List.{take_more}
use Rattle.std.proofs.lemmas.Option.{slice_get-get_or}
use Rattle.dispatch_core.specs.declared.event.Event.{Event}
use Rattle.dispatch_core.specs.declared.error.StepError.{StepError}
use Rattle.dispatch_core.specs.declared.error.StepError.TheVariants.{Stuck, Memory}
use Rattle.dispatch_core.specs.GroupState.{GroupState, IsEmpty}
use Rattle.dispatch_core.specs.Step.{Step}
use Rattle.dispatch_core.specs.Reasons.{IsRefused}
use Rattle.dispatch_core.specs.History.{Leads, IsRun, Fails}
use Rattle.dispatch_core.specs.Refusals.{placed}

pub leads_push : (old mid new : GroupState) (events : List Event) (event : Event) → Leads old events mid → Step mid event new → Leads old (events ++ event ∷ []) new
leads_push old mid new [] event led step = (new, subst (λ s. Step s event new) led step, refl)
leads_push old mid new (first ∷ events) event led step = (led.0, led.1, leads_push led.0 mid new events event led.2 step)

pub no_events : (events : List Event) (state : GroupState) → IsEmpty state → IsRun (take 0 events) state
no_events events state empty = record { start = state; empty = empty; steps = refl }

pub run_more : (events : List Event) (at : ℕ) (d : Event) (old new : GroupState) → at < length events → IsRun (take at events) old → Step old (get_or events at d) new → IsRun (take (at + 1) events) new
run_more events at d old new within run step =
    subst (λ es. IsRun es new) (sym (take_more events at d within))
    (record { start = run.start; empty = run.empty; steps = leads_push run.start old new (take at events) (get_or events at d) run.steps step })

pub stops : (events : List Event) (at : ℕ) (d : Event) (state : GroupState) (error : StepError) → at < length events → IsRun (take at events) state → IsRefused state (get_or events at d) error → Fails events (placed at error)
stops events at d state (Stuck why) within run stuck = record { event = get_or events at d; there = slice_get-get_or events at d within; state = state; before = run; stuck = stuck }
stops events at d state Memory within run refused =
    record { event = get_or events at d; there = slice_get-get_or events at d within; state = state; before = run; may = refused.0; takes = refused.1 }
