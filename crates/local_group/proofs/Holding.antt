-- What is handed out is held.
use Rattle.std.proofs.Common.{◌≡◌, ◌≢◌, ℕ, Some, sym, ap, ◌∙◌, subst}
use Rattle.dispatch_core.specs.declared.event.Job.{Job}
use Rattle.dispatch_core.specs.declared.event.Event.{Event}
use Rattle.dispatch_core.specs.declared.event.Event.TheVariants.{Accept, First, Ack, Refuse, Discard, Back, Again, Close}
use Rattle.dispatch_core.specs.declared.event.Spot.{Spot}
use Rattle.dispatch_core.specs.declared.event.Spot.TheVariants.{Held}
use Rattle.dispatch_core.specs.GroupState.{GroupState, spot_of}
use Rattle.dispatch_core.specs.Mentions.{job_of}
use Rattle.dispatch_core.specs.Step.{Step, Moves}
use Rattle.group_jobs.specs.Stamps.{Held as Envelope, job_of as stamped}
use Rattle.local_group.specs.declared.waiting.Waiting.{Waiting}
use Rattle.local_group.specs.Groups.{Group, IsHeld, Adds, held_by}

-- a job that comes to a place is held there
pub comes : (old new : Group) (event : Event) (front : Waiting) (place : ℕ) (envelope : Envelope) → envelope ≡ held_by old.slot front place → Adds old event new → spot_of new.state front.job ≡ Some (Held place) → IsHeld new envelope
comes old new event front place envelope is adds there =
    subst (IsHeld new) (sym is) (record { ours = sym adds.form.slot; there = there })

elsewhere : (old new : GroupState) (job : Job) (spot : Spot) (other : Job) → Moves old job spot new → Some job ≢ Some other → spot_of new other ≡ spot_of old other
elsewhere old new job spot other moves differs = moves.others other (λ same. differs (ap (λ j. Some j) (sym same)))

-- an event leaves each job where it was that it is not about
spot_stays : (old new : GroupState) (event : Event) (job : Job) → Step old event new → job_of old event ≢ Some job → spot_of new job ≡ spot_of old job
spot_stays old new (Accept port) job step differs = elsewhere old new _ _ job step.made.0 differs
spot_stays old new (First place other) job step differs = elsewhere old new _ _ job step.made.0 differs
spot_stays old new (Ack place other) job step differs = elsewhere old new _ _ job step.made.0 differs
spot_stays old new (Refuse place other) job step differs = elsewhere old new _ _ job step.made.0 differs
spot_stays old new (Discard place other) job step differs = elsewhere old new _ _ job step.made.0 differs
spot_stays old new (Back place other) job step differs = elsewhere old new _ _ job step.made.0 differs
spot_stays old new (Again place other) job step differs = elsewhere old new _ _ job step.made.0 differs
spot_stays old new Close job step differs = step.made.0 job

pub stays : (old new : Group) (event : Event) (envelope : Envelope) → IsHeld old envelope → Adds old event new → job_of old.state event ≢ Some (stamped envelope.stamp) → IsHeld new envelope
stays old new event envelope held adds differs =
    record { ours = held.ours ∙ sym adds.form.slot; there = spot_stays old.state new.state event (stamped envelope.stamp) adds.step differs ∙ held.there }
