-- What holds of every run.
use Rattle.std.proofs.Common.{◌≡◌, ◌≢◌, ℕ, ◌+◌, ◌<◌, ◌≤◌, true, cond, List, [], ◌∷◌, ◌++◌, length, slice_get, Some, None, is_some, IsSome, All, refl, sym, ap, ◌∙◌, subst, ⊎_elim, arith, eq-eqb, zero-add, add-zero}
use Rattle.std.specs.List.{count_by}
use Rattle.std.proofs.lemmas.Bool.{cases_eq, false≢true, ne_eqb}
use Rattle.std.proofs.lemmas.List.Elements.{All-nil, All-cons}
use Rattle.std.proofs.lemmas.List.Sums.{sum_by-cons}
use Rattle.std.proofs.lemmas.Option.{slice_get_past, same_Some}
use Rattle.dispatch_core.specs.declared.event.Job.{Job}
use Rattle.dispatch_core.specs.declared.event.Event.{Event}
use Rattle.dispatch_core.specs.declared.event.Event.TheVariants.{Accept, First, Ack, Refuse, Discard, Back, Again, Close}
use Rattle.dispatch_core.specs.declared.event.Spot.{Spot}
use Rattle.dispatch_core.specs.declared.event.Spot.TheVariants.{Queued, Held, Acked, Refused, Discarded, Returned}
use Rattle.dispatch_core.specs.GroupState.{GroupState, spot_of, firsts_of, accepted_of, row_of}
use Rattle.dispatch_core.specs.Step.{Moves, Step, NeedsOpen, next_job}
use Rattle.dispatch_core.specs.History.{Leads, IsRun}
use Rattle.dispatch_core.specs.Lawful.{IsLawful}
use Rattle.dispatch_core.specs.Mentions.{job_of, first_member_of, HandsOutJob, is_accept}
use Rattle.dispatch_core.proofs.Spots.{some_within, some_below, same_job}
use Rattle.dispatch_core.proofs.LawfulSteps.{lawful_step, lawful_empty, some_there}

-- two lists of events, one after the other
pub leads_append : (old new : GroupState) (before behind : List Event) → Leads old (before ++ behind) new → (mid : GroupState) × Leads old before mid × Leads mid behind new
leads_append old new [] behind led = (old, refl, led)
leads_append old new (event ∷ before) behind led =
    let rest = leads_append led.0 new before behind led.2 in
    (rest.0, (led.0, led.1, rest.1), rest.2)

lawful_leads : (old new : GroupState) (events : List Event) → IsLawful old → Leads old events new → IsLawful new
lawful_leads old new [] lawful led = subst IsLawful (sym led) lawful
lawful_leads old new (event ∷ events) lawful led = lawful_leads led.0 new events (lawful_step old led.0 event lawful led.1) led.2

pub lawful_run : (events : List Event) (state : GroupState) → IsRun events state → IsLawful state
lawful_run events state run = lawful_leads run.start state events (lawful_empty run.start run.empty) run.steps

-- a row with no more places that hold something is not longer
pub not_longer : (xs ys : List Spot) → ((k : ℕ) → IsSome (slice_get xs k) → IsSome (slice_get ys k)) → length xs ≤ length ys
not_longer [] ys there = omega arith
not_longer (x ∷ xs) ys there = let within = some_within ys (length xs) (there (length xs) (some_below (x ∷ xs) (length xs) (omega arith))) in omega arith

-- where only a job that has a spot moves, no port accepts
same_count : (old new : GroupState) (job : Job) (spot : Spot) (port : ℕ) → IsSome (spot_of old job) → Moves old job spot new → accepted_of new port ≡ accepted_of old port
same_count old new job spot port some moves =
    let at : ℕ → Job = λ number. record { port = port; number = number } in
    let fewer : accepted_of new port ≤ accepted_of old port =
    not_longer (row_of new port) (row_of old port)
    (λ number there.
    ⊎_elim
    (λ (same : at number ≡ job). subst (λ j. IsSome (spot_of old j)) (sym same) some)
    (λ (differs : at number ≢ job). subst IsSome (moves.others (at number) differs) there)
    (same_job (at number) job)) in
    let more : accepted_of old port ≤ accepted_of new port =
    not_longer (row_of old port) (row_of new port)
    (λ number there.
    ⊎_elim
    (λ (same : at number ≡ job). subst (λ j. IsSome (spot_of new j)) (sym same) (some_there (spot_of new job) spot moves.there))
    (λ (differs : at number ≢ job). subst IsSome (sym (moves.others (at number) differs)) there)
    (same_job (at number) job)) in
    omega arith

-- a port that accepts has one job more, and the others have as many as before
one_more : (old new : GroupState) (port : ℕ) → Moves old (next_job old port) Queued new → accepted_of new port ≡ 1 + accepted_of old port
one_more old new port moves =
    let at : ℕ → Job = λ number. record { port = port; number = number } in
    let next = next_job old port in
    let more : accepted_of old port < accepted_of new port = some_within (row_of new port) (accepted_of old port) (some_there (spot_of new next) Queued moves.there) in
    let fewer : length (row_of new port) ≤ length (Queued ∷ row_of old port) =
    not_longer (row_of new port) (Queued ∷ row_of old port)
    (λ number there.
    some_below (Queued ∷ row_of old port) number
    (⊎_elim
    (λ (same : number ≡ accepted_of old port). let bound : number < length (Queued ∷ row_of old port) = omega arith in bound)
    (λ (differs : number ≢ accepted_of old port).
    let was : IsSome (spot_of old (at number)) = subst IsSome (moves.others (at number) (λ e. differs (ap (λ j. j.number) e))) there in
    let within : number < accepted_of old port = some_within (row_of old port) number was in
    let bound : number < length (Queued ∷ row_of old port) = omega arith in bound)
    (cases_eq number (accepted_of old port)))) in
    omega arith

same_elsewhere : (old new : GroupState) (port other : ℕ) → other ≢ port → Moves old (next_job old port) Queued new → accepted_of new other ≡ accepted_of old other
same_elsewhere old new port other apart moves =
    let at : ℕ → Job = λ number. record { port = other; number = number } in
    let stays : (number : ℕ) → spot_of new (at number) ≡ spot_of old (at number) = λ number. moves.others (at number) (λ e. apart (ap (λ j. j.port) e)) in
    let fewer : accepted_of new other ≤ accepted_of old other = not_longer (row_of new other) (row_of old other) (λ number there. subst IsSome (stays number) there) in
    let more : accepted_of old other ≤ accepted_of new other = not_longer (row_of old other) (row_of new other) (λ number there. subst IsSome (sym (stays number)) there) in
    omega arith

same_all : (old new : GroupState) (port : ℕ) → ((job : Job) → spot_of new job ≡ spot_of old job) → accepted_of new port ≡ accepted_of old port
same_all old new port same =
    let at : ℕ → Job = λ number. record { port = port; number = number } in
    let fewer : accepted_of new port ≤ accepted_of old port = not_longer (row_of new port) (row_of old port) (λ number there. subst IsSome (same (at number)) there) in
    let more : accepted_of old port ≤ accepted_of new port = not_longer (row_of old port) (row_of new port) (λ number there. subst IsSome (sym (same (at number))) there) in
    omega arith

count_step : (old new : GroupState) (event : Event) (port : ℕ) → Step old event new → accepted_of new port ≡ cond (is_accept port event) 1 0 + accepted_of old port
count_step old new (Accept other) port step =
    ⊎_elim
    (λ (same : other ≡ port).
    rw (eq-eqb other port same) (subst (λ p. accepted_of new p ≡ 1 + accepted_of old p) same (one_more old new other step.made.0)))
    (λ (differs : other ≢ port). rw (ne_eqb other port differs) (same_elsewhere old new other port (λ e. differs (sym e)) step.made.0 ∙ sym (zero-add (accepted_of old port))))
    (cases_eq other port)
count_step old new (First member job) port step = same_count old new job (Held member) port (some_there _ _ step.may.ready.0) step.made.0 ∙ sym (zero-add (accepted_of old port))
count_step old new (Ack member job) port step = same_count old new job (Acked member) port (some_there _ _ step.may.ready) step.made.0 ∙ sym (zero-add (accepted_of old port))
count_step old new (Refuse member job) port step = same_count old new job (Refused member) port (some_there _ _ step.may.ready) step.made.0 ∙ sym (zero-add (accepted_of old port))
count_step old new (Discard member job) port step = same_count old new job (Discarded member) port (some_there _ _ step.may.ready) step.made.0 ∙ sym (zero-add (accepted_of old port))
count_step old new (Back member job) port step = same_count old new job Returned port (some_there _ _ step.may.ready) step.made.0 ∙ sym (zero-add (accepted_of old port))
count_step old new (Again member job) port step = same_count old new job (Held member) port (some_there _ _ step.may.ready) step.made.0 ∙ sym (zero-add (accepted_of old port))
count_step old new Close port step = same_all old new port step.made.0 ∙ sym (zero-add (accepted_of old port))

count_leads : (old new : GroupState) (events : List Event) (port : ℕ) → Leads old events new → accepted_of new port ≡ accepted_of old port + count_by (is_accept port) events
count_leads old new [] port led = ap (λ s. accepted_of s port) led ∙ sym (add-zero (accepted_of old port))
count_leads old new (event ∷ events) port led =
    let first = count_step old led.0 event port led.1 in
    let rest = count_leads led.0 new events port led.2 in
    omega (arith, sum_by-cons (λ e. cond (is_accept port e) 1 0) event events)

pub count_run : (events : List Event) (state : GroupState) (port : ℕ) → IsRun events state → accepted_of state port ≡ count_by (is_accept port) events
count_run events state port run =
    let none : accepted_of run.start port ≤ 0 = not_longer (row_of run.start port) [] (λ number there. absurd (false≢true (ap is_some (sym (run.empty.no_job (record { port = port; number = number }))) ∙ there))) in
    omega (arith, count_leads run.start state events port run.steps)

-- a job whose fate is settled stays where it is, and is not handed out
settled_step : (old new : GroupState) (event : Event) (job : Job) (spot : Spot) → spot ≢ Queued → ((member : ℕ) → spot ≢ Held member) → spot ≢ Returned → spot_of old job ≡ Some spot → Step old event new → (¬ HandsOutJob job event) × (spot_of new job ≡ Some spot)
settled_step old new (Accept port) job spot unqueued unheld unreturned there step =
    let unknown : job ≢ next_job old port =
    λ same.
    let none : spot_of old job ≡ None = ap (spot_of old) same ∙ slice_get_past (row_of old port) (accepted_of old port) (omega arith) in
    absurd (false≢true (ap is_some (sym none ∙ there))) in
    (λ h. h, step.made.0.others job unknown ∙ there)
settled_step old new (First member other) job spot unqueued unheld unreturned there step =
    let differs : job ≢ other = λ same. unqueued (same_Some _ _ (sym there ∙ ap (spot_of old) same ∙ step.may.ready.0)) in
    (λ same. differs (sym same), step.made.0.others job differs ∙ there)
settled_step old new (Ack member other) job spot unqueued unheld unreturned there step =
    let differs : job ≢ other = λ same. unheld member (same_Some _ _ (sym there ∙ ap (spot_of old) same ∙ step.may.ready)) in
    (λ h. h, step.made.0.others job differs ∙ there)
settled_step old new (Refuse member other) job spot unqueued unheld unreturned there step =
    let differs : job ≢ other = λ same. unheld member (same_Some _ _ (sym there ∙ ap (spot_of old) same ∙ step.may.ready)) in
    (λ h. h, step.made.0.others job differs ∙ there)
settled_step old new (Discard member other) job spot unqueued unheld unreturned there step =
    let differs : job ≢ other = λ same. unheld member (same_Some _ _ (sym there ∙ ap (spot_of old) same ∙ step.may.ready)) in
    (λ h. h, step.made.0.others job differs ∙ there)
settled_step old new (Back member other) job spot unqueued unheld unreturned there step =
    let differs : job ≢ other = λ same. unheld member (same_Some _ _ (sym there ∙ ap (spot_of old) same ∙ step.may.ready)) in
    (λ h. h, step.made.0.others job differs ∙ there)
settled_step old new (Again member other) job spot unqueued unheld unreturned there step =
    let differs : job ≢ other = λ same. unreturned (same_Some _ _ (sym there ∙ ap (spot_of old) same ∙ step.may.ready)) in
    (λ same. differs (sym same), step.made.0.others job differs ∙ there)
settled_step old new Close job spot unqueued unheld unreturned there step = (λ h. h, step.made.0 job ∙ there)

settled_leads : (old new : GroupState) (events : List Event) (job : Job) (spot : Spot) → spot ≢ Queued → ((member : ℕ) → spot ≢ Held member) → spot ≢ Returned → spot_of old job ≡ Some spot → Leads old events new → All (λ event. ¬ HandsOutJob job event) events × (spot_of new job ≡ Some spot)
settled_leads old new [] job spot unqueued unheld unreturned there led = (All-nil (λ event. ¬ HandsOutJob job event), ap (λ s. spot_of s job) led ∙ there)
settled_leads old new (event ∷ events) job spot unqueued unheld unreturned there led =
    let first = settled_step old led.0 event job spot unqueued unheld unreturned there led.1 in
    let rest = settled_leads led.0 new events job spot unqueued unheld unreturned first.1 led.2 in
    (All-cons (λ e. ¬ HandsOutJob job e) event events first.0 rest.0, rest.1)

pub refused_run : (before behind : List Event) (member : ℕ) (job : Job) (state : GroupState) → IsRun (before ++ Refuse member job ∷ behind) state → All (λ event. ¬ HandsOutJob job event) behind × (spot_of state job ≡ Some (Refused member))
refused_run before behind member job state run =
    let parts = leads_append run.start state before (Refuse member job ∷ behind) run.steps in
    settled_leads parts.2.0 state behind job (Refused member) (λ e. cc) (λ holder e. cc) (λ e. cc) parts.2.1.made.0.there parts.2.2

pub discarded_run : (before behind : List Event) (member : ℕ) (job : Job) (state : GroupState) → IsRun (before ++ Discard member job ∷ behind) state → All (λ event. ¬ HandsOutJob job event) behind × (spot_of state job ≡ Some (Discarded member))
discarded_run before behind member job state run =
    let parts = leads_append run.start state before (Discard member job ∷ behind) run.steps in
    settled_leads parts.2.0 state behind job (Discarded member) (λ e. cc) (λ holder e. cc) (λ e. cc) parts.2.1.made.0.there parts.2.2

pub acked_run : (before behind : List Event) (member : ℕ) (job : Job) (state : GroupState) → IsRun (before ++ Ack member job ∷ behind) state → All (λ event. ¬ HandsOutJob job event) behind × (spot_of state job ≡ Some (Acked member))
acked_run before behind member job state run =
    let parts = leads_append run.start state before (Ack member job ∷ behind) run.steps in
    settled_leads parts.2.0 state behind job (Acked member) (λ e. cc) (λ holder e. cc) (λ e. cc) parts.2.1.made.0.there parts.2.2

-- after close
pub mark_kept : (old new : GroupState) (event : Event) → event ≢ Close → Step old event new → new.closed ≡ old.closed
mark_kept old new (Accept port) other step = step.made.2
mark_kept old new (First member job) other step = step.made.2
mark_kept old new (Ack member job) other step = step.made.2
mark_kept old new (Refuse member job) other step = step.made.2
mark_kept old new (Discard member job) other step = step.made.2
mark_kept old new (Back member job) other step = step.made.2
mark_kept old new (Again member job) other step = step.made.2
mark_kept old new Close other step = absurd (other refl)

closed_step : (old new : GroupState) (event : Event) → old.closed ≡ true → Step old event new → new.closed ≡ true
closed_step old new (Accept port) closed step = step.made.2 ∙ closed
closed_step old new (First member job) closed step = step.made.2 ∙ closed
closed_step old new (Ack member job) closed step = step.made.2 ∙ closed
closed_step old new (Refuse member job) closed step = step.made.2 ∙ closed
closed_step old new (Discard member job) closed step = step.made.2 ∙ closed
closed_step old new (Back member job) closed step = step.made.2 ∙ closed
closed_step old new (Again member job) closed step = step.made.2 ∙ closed
closed_step old new Close closed step = step.made.2

closed_leads : (old new : GroupState) (events : List Event) → old.closed ≡ true → Leads old events new → All (λ event. ¬ NeedsOpen event) events × (new.closed ≡ true)
closed_leads old new [] closed led = (All-nil (λ event. ¬ NeedsOpen event), ap (λ s. s.closed) led ∙ closed)
closed_leads old new (event ∷ events) closed led =
    let rest = closed_leads led.0 new events (closed_step old led.0 event closed led.1) led.2 in
    (All-cons (λ e. ¬ NeedsOpen e) event events (λ needs. false≢true (sym (led.1.may.not_closed needs) ∙ closed)) rest.0, rest.1)

pub closed_run : (before behind : List Event) (state : GroupState) → IsRun (before ++ Close ∷ behind) state → All (λ event. ¬ NeedsOpen event) behind × (state.closed ≡ true)
closed_run before behind state run =
    let parts = leads_append run.start state before (Close ∷ behind) run.steps in
    closed_leads parts.2.0 state behind parts.2.1.made.2 parts.2.2

-- what an event does not name
pub job_kept : (old new : GroupState) (event : Event) (job : Job) → job_of old event ≢ Some job → Step old event new → spot_of new job ≡ spot_of old job
job_kept old new (Accept port) job other step = step.made.0.others job (λ same. other (ap Some (sym same)))
job_kept old new (First member moved) job other step = step.made.0.others job (λ same. other (ap Some (sym same)))
job_kept old new (Ack member moved) job other step = step.made.0.others job (λ same. other (ap Some (sym same)))
job_kept old new (Refuse member moved) job other step = step.made.0.others job (λ same. other (ap Some (sym same)))
job_kept old new (Discard member moved) job other step = step.made.0.others job (λ same. other (ap Some (sym same)))
job_kept old new (Back member moved) job other step = step.made.0.others job (λ same. other (ap Some (sym same)))
job_kept old new (Again member moved) job other step = step.made.0.others job (λ same. other (ap Some (sym same)))
job_kept old new Close job other step = step.made.0 job

pub firsts_kept : (old new : GroupState) (event : Event) (member : ℕ) → first_member_of event ≢ Some member → Step old event new → firsts_of new member ≡ firsts_of old member
firsts_kept old new (Accept port) member other step = step.made.1 member
firsts_kept old new (First taker job) member other step = step.made.1.others member (λ same. other (ap Some (sym same)))
firsts_kept old new (Ack holder job) member other step = step.made.1 member
firsts_kept old new (Refuse holder job) member other step = step.made.1 member
firsts_kept old new (Discard holder job) member other step = step.made.1 member
firsts_kept old new (Back holder job) member other step = step.made.1 member
firsts_kept old new (Again taker job) member other step = step.made.1 member
firsts_kept old new Close member other step = step.made.1 member
