-- The events of a run tell the state that they lead to.
use Rattle.std.proofs.Common.{◌≡◌, ◌≢◌, ℕ, ◌<◌, List, [], ◌∷◌, ◌++◌, Some, None, is_some, IsSome, sym, ap, ◌∙◌, subst, ⊎_elim, arith, eq-eqb, append_assoc, append-nil}
use Rattle.std.proofs.lemmas.Bool.{cases_eq, false≢true, ne_eqb}
use Rattle.std.proofs.lemmas.List.Elements.{All-head, All-tail}
use Rattle.std.proofs.lemmas.Option.{slice_get_past, same_Some}
use Rattle.dispatch_core.specs.declared.event.Job.{Job}
use Rattle.dispatch_core.specs.declared.event.Event.{Event}
use Rattle.dispatch_core.specs.declared.event.Event.TheVariants.{Accept, First, Ack, Refuse, Discard, Back, Again, Close}
use Rattle.dispatch_core.specs.GroupState.{GroupState, spot_of, firsts_of, accepted_of, row_of}
use Rattle.dispatch_core.specs.Step.{Step, next_job}
use Rattle.dispatch_core.specs.History.{Leads, IsRun}
use Rattle.dispatch_core.specs.Mentions.{named_job, accepts_of}
use Rattle.dispatch_core.specs.Told.{first_to, firsts_in, job_after, spot_after, NoneNames}
use Rattle.dispatch_core.proofs.LawfulSteps.{some_there}
use Rattle.dispatch_core.proofs.RunLaws.{leads_append, lawful_run, count_run}

-- the jobs that have a spot, by the events
pub accepted_run : (events : List Event) (state : GroupState) → IsRun events state → (job : Job) → (IsSome (spot_of state job) → job.number < accepts_of events job.port) × (job.number < accepts_of events job.port → IsSome (spot_of state job))
accepted_run events state run job =
    let accepted = let lawful = lawful_run events state run in lawful.accepted job in
    let count = count_run events state job.port run in
    (λ some. subst (λ n. job.number < n) count (accepted.0 some), λ less. accepted.1 (subst (λ n. job.number < n) (sym count) less))

-- first hand-outs
firsts_step : (old new : GroupState) (event : Event) (member : ℕ) → Step old event new → firsts_of new member ≡ firsts_of old member ++ first_to member event
firsts_step old new (Accept port) member step = step.made.1 member ∙ sym (append-nil (firsts_of old member))
firsts_step old new (First taker job) member step =
    ⊎_elim
    (λ (same : taker ≡ member).
    rw (eq-eqb taker member same) (subst (λ m. firsts_of new m ≡ firsts_of old m ++ job ∷ []) same step.made.1.last))
    (λ (differs : taker ≢ member). rw (ne_eqb taker member differs) (step.made.1.others member (λ e. differs (sym e)) ∙ sym (append-nil (firsts_of old member))))
    (cases_eq taker member)
firsts_step old new (Ack holder job) member step = step.made.1 member ∙ sym (append-nil (firsts_of old member))
firsts_step old new (Refuse holder job) member step = step.made.1 member ∙ sym (append-nil (firsts_of old member))
firsts_step old new (Discard holder job) member step = step.made.1 member ∙ sym (append-nil (firsts_of old member))
firsts_step old new (Back holder job) member step = step.made.1 member ∙ sym (append-nil (firsts_of old member))
firsts_step old new (Again taker job) member step = step.made.1 member ∙ sym (append-nil (firsts_of old member))
firsts_step old new Close member step = step.made.1 member ∙ sym (append-nil (firsts_of old member))

firsts_leads : (old new : GroupState) (events : List Event) (member : ℕ) → Leads old events new → firsts_of new member ≡ firsts_of old member ++ firsts_in events member
firsts_leads old new [] member led = ap (λ s. firsts_of s member) led ∙ sym (append-nil (firsts_of old member))
firsts_leads old new (event ∷ events) member led =
    firsts_leads led.0 new events member led.2 ∙ ap (λ js. js ++ firsts_in events member) (firsts_step old led.0 event member led.1)
    ∙ append_assoc (firsts_of old member) (first_to member event) (firsts_in events member)

pub firsts_run : (events : List Event) (state : GroupState) (member : ℕ) → IsRun events state → firsts_of state member ≡ firsts_in events member
firsts_run events state member run = firsts_leads run.start state events member run.steps ∙ ap (λ js. js ++ firsts_in events member) (run.empty.no_hand_out member)

-- an event that does not name a job that has a spot leaves it there
unnamed_step : (old new : GroupState) (event : Event) (job : Job) → IsSome (spot_of old job) → named_job event ≢ Some job → Step old event new → spot_of new job ≡ spot_of old job
unnamed_step old new (Accept port) job some unnamed step =
    step.made.0.others job
    (λ same.
    let none : spot_of old job ≡ None = ap (spot_of old) same ∙ slice_get_past (row_of old port) (accepted_of old port) (omega arith) in
    false≢true (ap is_some (sym none) ∙ some))
unnamed_step old new (First member other) job some unnamed step = step.made.0.others job (λ same. unnamed (ap Some (sym same)))
unnamed_step old new (Ack member other) job some unnamed step = step.made.0.others job (λ same. unnamed (ap Some (sym same)))
unnamed_step old new (Refuse member other) job some unnamed step = step.made.0.others job (λ same. unnamed (ap Some (sym same)))
unnamed_step old new (Discard member other) job some unnamed step = step.made.0.others job (λ same. unnamed (ap Some (sym same)))
unnamed_step old new (Back member other) job some unnamed step = step.made.0.others job (λ same. unnamed (ap Some (sym same)))
unnamed_step old new (Again member other) job some unnamed step = step.made.0.others job (λ same. unnamed (ap Some (sym same)))
unnamed_step old new Close job some unnamed step = step.made.0 job

unnamed_leads : (old new : GroupState) (events : List Event) (job : Job) → IsSome (spot_of old job) → NoneNames job events → Leads old events new → spot_of new job ≡ spot_of old job
unnamed_leads old new [] job some none led = ap (λ s. spot_of s job) led
unnamed_leads old new (event ∷ events) job some none led =
    let first = unnamed_step old led.0 event job some (All-head (λ e. named_job e ≢ Some job) event events none) led.1 in
    unnamed_leads led.0 new events job (subst IsSome (sym first) some) (All-tail (λ e. named_job e ≢ Some job) event events none) led.2 ∙ first

-- the event that a job's spot comes from
spot_step : (before : List Event) (old new : GroupState) (event : Event) (job : Job) → IsRun before old → job_after before event ≡ Some job → Step old event new → (spot_of new job ≡ spot_after event) × IsSome (spot_of new job)
spot_step before old new (Accept port) job run about step =
    let count : next_job old port ≡ record { port = port; number = accepts_of before port } = ap (λ n. record { port = port; number = n }) (count_run before old port run) in
    let same : next_job old port ≡ job = count ∙ same_Some _ _ about in
    let there = ap (spot_of new) (sym same) ∙ step.made.0.there in
    (there, some_there _ _ there)
spot_step before old new (First member other) job run about step = let there = ap (spot_of new) (sym (same_Some other job about)) ∙ step.made.0.there in (there, some_there _ _ there)
spot_step before old new (Ack member other) job run about step = let there = ap (spot_of new) (sym (same_Some other job about)) ∙ step.made.0.there in (there, some_there _ _ there)
spot_step before old new (Refuse member other) job run about step = let there = ap (spot_of new) (sym (same_Some other job about)) ∙ step.made.0.there in (there, some_there _ _ there)
spot_step before old new (Discard member other) job run about step = let there = ap (spot_of new) (sym (same_Some other job about)) ∙ step.made.0.there in (there, some_there _ _ there)
spot_step before old new (Back member other) job run about step = let there = ap (spot_of new) (sym (same_Some other job about)) ∙ step.made.0.there in (there, some_there _ _ there)
spot_step before old new (Again member other) job run about step = let there = ap (spot_of new) (sym (same_Some other job about)) ∙ step.made.0.there in (there, some_there _ _ there)
spot_step before old new Close job run about step = absurd (false≢true (ap is_some about))

pub spot_run : (before behind : List Event) (event : Event) (job : Job) (state : GroupState) → IsRun (before ++ event ∷ behind) state → job_after before event ≡ Some job → NoneNames job behind → spot_of state job ≡ spot_after event
spot_run before behind event job state run about none =
    let parts = leads_append run.start state before (event ∷ behind) run.steps in
    let so_far : IsRun before parts.0 = record { start = run.start; empty = run.empty; steps = parts.1 } in
    let here = spot_step before parts.0 parts.2.0 event job so_far about parts.2.1 in
    unnamed_leads parts.2.0 state behind job here.1 none parts.2.2 ∙ here.0
