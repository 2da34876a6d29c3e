-- What was given back is handed out first: what each call makes of one group.
use Rattle.std.proofs.Common.{◌≡◌, ℕ, ◌⊎◌, true, false, List, [], ◌∷◌, ◌++◌, length, Option, Some, None, Result, Ok, Err, refl, sym, ap, ◌∙◌, subst, inl, inr, ⊎_elim, arith}
use Rattle.std.proofs.lemmas.List.{map-append}
use Rattle.std.proofs.lemmas.Option.{slice_get_past}
use Rattle.dispatch_core.specs.declared.event.Event.{Event}
use Rattle.dispatch_core.specs.declared.event.Event.TheVariants.{Accept, First, Again, Close}
use Rattle.dispatch_core.specs.declared.event.Job.{Job}
use Rattle.dispatch_core.specs.declared.event.Spot.{Spot}
use Rattle.dispatch_core.specs.declared.event.Spot.TheVariants.{Queued, Held, Acked, Refused, Discarded, Returned}
use Rattle.dispatch_core.specs.GroupState.{spot_of, row_of}
use Rattle.dispatch_core.specs.History.{IsRun}
use Rattle.dispatch_core.specs.JobRuns.{count_of}
use Rattle.dispatch_core.specs.Step.{Moves, next_job}
use Rattle.dispatch_core.proofs.ExactLaws.{one_state}
use Rattle.dispatch_core.proofs.JobLists.{count_of-cons, count_of-append}
use Rattle.group_jobs.specs.declared.fate.Fate.{Fate}
use Rattle.group_jobs.specs.declared.fate.Fate.TheVariants as fate
use Rattle.group_jobs.specs.declared.message.Message.{Message}
use Rattle.group_jobs.specs.declared.stamp.Stamp.{Stamp}
use Rattle.group_jobs.specs.Spots.{times_returned, Lists}
use Rattle.group_jobs.specs.Stamps.{Held as Envelope, job_of}
use Rattle.local_group.specs.Groups.{Group, Adds, IsFresh, Settles, GivesBack, Closes, waits}
use Rattle.local_group.specs.Spots.{jobs_in}
use Rattle.local_group.proofs.Spots.{lists_same, lists_more, lists_less}
use Rattle.local_group.proofs.Steps.{goes_on}
use Rattle.conn_supply.specs.declared.supply.NoMemory.{NoMemory}
use Rattle.conn_supply.specs.declared.supply.OfferRefusal.{OfferRefusal}
use Rattle.local_broker.specs.Groups.{IsOffered, HandsOut, HandsOutAgain, IsOutAt, IsSettled, IsGivenBack, LetsGo}
use Rattle.local_broker.specs.ReturnedFirst.{NoneReturned, ServesReturnedFirst}
use Rattle.local_broker.proofs.Closed.{either}

-- an event stands last in a list, or before its last one
record StandsLast (events before behind : List Event) (last event : Event) : Type 0 where
  whole : before ≡ events
  same : last ≡ event

record StandsBefore (events before behind : List Event) (last event : Event) : Type 0 where
  between : List Event
  there : events ≡ before ++ event ∷ between

one_deeper : (one other : Event) (events before behind : List Event) (last event : Event) → one ≡ other
    → StandsLast events before behind last event ⊎ StandsBefore events before behind last event
    → StandsLast (one ∷ events) (other ∷ before) behind last event ⊎ StandsBefore (one ∷ events) (other ∷ before) behind last event
one_deeper one other events before behind last event same (inl is) = inl (record { whole = λ i. sym same i ∷ is.whole i; same = is.same })
one_deeper one other events before behind last event same (inr is) = inr (record { between = is.between; there = λ i. same i ∷ is.there i })

first_is : (one other : Event) (these those : List Event) → one ∷ these ≡ other ∷ those → (one ≡ other) × (these ≡ those)
first_is one other these those same = (cc, cc)

never_last : (before behind : List Event) (event : Event) → [] ≡ before ++ event ∷ behind → ⊥
never_last [] behind event same = cc
never_last (first ∷ before) behind event same = cc

stands : (events before behind : List Event) (last event : Event) → events ++ last ∷ [] ≡ before ++ event ∷ behind
    → StandsLast events before behind last event ⊎ StandsBefore events before behind last event
stands [] [] behind last event same = inl (record { whole = refl; same = (first_is last event [] behind same).0 })
stands [] (first ∷ before) behind last event same = absurd (never_last before behind event (first_is last first [] (before ++ event ∷ behind) same).1)
stands (one ∷ events) [] behind last event same = inr (record { between = events; there = λ i. (first_is one event (events ++ last ∷ []) behind same).0 i ∷ events })
stands (one ∷ events) (other ∷ before) behind last event same =
    let is = first_is one other (events ++ last ∷ []) (before ++ event ∷ behind) same in
    one_deeper one other events before behind last event is.0 (stands events before behind last event is.1)

-- one event more: where it is a first hand-out, no message waits that was given back
grows : (old new : Group) (event : Event) → ServesReturnedFirst old → Adds old event new → Lists times_returned new.state (jobs_in new.returned)
    → ((member : ℕ) (job : Job) → event ≡ First member job → NoneReturned old.events) → ServesReturnedFirst new
grows old new event serves adds lists none =
    record {
      run = subst (λ events. IsRun events new.state) (sym adds.events) (goes_on old.state new.state old.events event serves.run adds.step);
      returned = lists;
      first = λ before behind member job is.
          ⊎_elim
          (λ (last : StandsLast old.events before behind event (First member job)). subst NoneReturned (sym last.whole) (none member job last.same))
          (λ (earlier : StandsBefore old.events before behind event (First member job)). serves.first before earlier.between member job earlier.there)
          (stands old.events before behind event (First member job) (sym adds.events ∙ is));
    }

-- where the list of returned messages is empty, none waits that was given back
none_waits : (group : Group) → ServesReturnedFirst group → group.returned ≡ [] → NoneReturned group.events
none_waits group serves empty state job run back =
    let same : spot_of group.state job ≡ spot_of state job = (one_state group.events state group.state run serves.run).spots job in
    let none : count_of job (jobs_in group.returned) ≡ 0 = ap (λ l. count_of job (jobs_in l)) empty in
    let one : times_returned (spot_of group.state job) ≡ 1 = ap times_returned (same ∙ back) in
    omega (arith, serves.returned job)

unchanged : (old new : Group) → new ≡ old → ServesReturnedFirst old → ServesReturnedFirst new
unchanged old new same serves = subst ServesReturnedFirst (sym same) serves

pub fresh : (group : Group) → IsFresh group → ServesReturnedFirst group
fresh group is =
    record {
      run = subst (λ events. IsRun events group.state) (sym is.events) (record { start = group.state; empty = is.state; steps = refl });
      returned = λ job. ap (λ l. count_of job (jobs_in l)) is.returned ∙ sym (ap times_returned (is.state.no_job job));
      first = λ before behind member job there. absurd (never_last before behind (First member job) (sym is.events ∙ there));
    }

-- the list of returned messages stays, where the job that moves was not and is not returned
keeps_list : (old new : Group) (job : Job) (spot : Spot) → ServesReturnedFirst old → Moves old.state job spot new.state → new.returned ≡ old.returned
    → times_returned (spot_of old.state job) ≡ 0 → times_returned (Some spot) ≡ 0 → Lists times_returned new.state (jobs_in new.returned)
keeps_list old new job spot serves moves same was is =
    subst (λ l. Lists times_returned new.state (jobs_in l)) (sym same) (lists_same times_returned old.state new.state job spot moves (jobs_in old.returned) was is serves.returned)

pub offered : (answer : Result Stamp OfferRefusal) (old new : Group) (port : ℕ) (message : Message) → IsOffered old port message answer new → ServesReturnedFirst old
    → ServesReturnedFirst new
offered (Ok stamp) old new port message does serves =
    let next = next_job old.state port in
    let nowhere : spot_of old.state next ≡ None = slice_get_past (row_of old.state port) (length (row_of old.state port)) (omega arith) in
    grows old new (Accept port) serves does.event
    (keeps_list old new next Queued serves does.event.step.made.0 does.returned (ap times_returned nowhere) refl) (λ member job is. absurd (cc))
offered (Err refusal) old new port message does serves = unchanged old new does.same serves

-- a message of the queue is handed out, where the list of returned ones is empty or the group closed
pub handed : (answer : Result (Option Envelope) NoMemory) (old new : Group) (place : ℕ) → HandsOut old place answer new
    → ((envelope : Envelope) → answer ≡ Ok (Some envelope) → (old.state.closed ≡ true) ⊎ (old.returned ≡ [])) → ServesReturnedFirst old → ServesReturnedFirst new
handed (Ok (Some envelope)) old new place does found_none serves =
    let adds = does.4 in
    let opens : old.state.closed ≡ false = adds.step.may.not_closed tt in
    let empty : old.returned ≡ [] =
    ⊎_elim (λ (shut : old.state.closed ≡ true). absurd (cc)) (λ (none : old.returned ≡ []). none) (found_none envelope refl) in
    grows old new (First place does.0.job) serves adds
    (keeps_list old new does.0.job (Held place) serves adds.step.made.0 does.3 (ap times_returned adds.step.may.ready.0) refl)
    (λ member job is. none_waits old serves empty)
handed (Ok None) old new place does found_none serves = unchanged old new does.1 serves
handed (Err error) old new place does found_none serves = unchanged old new does.1 serves

pub handed_again : (answer : Result (Option Envelope) NoMemory) (old new : Group) (place : ℕ) → HandsOutAgain old place answer new → ServesReturnedFirst old → ServesReturnedFirst new
handed_again (Ok (Some envelope)) old new place does serves =
    let job = does.0.job in
    let adds = does.4 in
    let before : Lists times_returned old.state (job ∷ jobs_in new.returned) = subst (λ l. Lists times_returned old.state (jobs_in l)) does.1 serves.returned in
    grows old new (Again place job) serves adds
    (lists_less times_returned old.state new.state job (Held place) adds.step.made.0 (job ∷ jobs_in new.returned) (jobs_in new.returned)
    (ap times_returned adds.step.may.ready) refl (λ other. count_of-cons other job (jobs_in new.returned)) before) (λ member other is. absurd (cc))
handed_again (Ok None) old new place does serves = unchanged old new does.1 serves
handed_again (Err error) old new place does serves = unchanged old new does.1 serves

settles : (how : Fate) (old new : Group) (envelope : Envelope) → Settles old envelope how new → ServesReturnedFirst old → ServesReturnedFirst new
settles fate.Acknowledged old new envelope does serves =
    let adds = does.event in
    grows old new _ serves adds
    (keeps_list old new (job_of envelope.stamp) (Acked envelope.place) serves adds.step.made.0 does.returned (ap times_returned adds.step.may.ready) refl)
    (λ member job is. absurd (cc))
settles fate.Refused old new envelope does serves =
    let adds = does.event in
    grows old new _ serves adds
    (keeps_list old new (job_of envelope.stamp) (Refused envelope.place) serves adds.step.made.0 does.returned (ap times_returned adds.step.may.ready) refl)
    (λ member job is. absurd (cc))
settles fate.Discarded old new envelope does serves =
    let adds = does.event in
    grows old new _ serves adds
    (keeps_list old new (job_of envelope.stamp) (Discarded envelope.place) serves adds.step.made.0 does.returned (ap times_returned adds.step.may.ready) refl)
    (λ member job is. absurd (cc))

pub settled : (how : Fate) (old new : Group) (place : ℕ) (envelope : Envelope) → IsSettled old place envelope how new → ServesReturnedFirst old → ServesReturnedFirst new
settled how old new place envelope does serves =
    ⊎_elim
    (λ (is : IsOutAt old place envelope × Settles old envelope how new). settles how old new envelope is.1 serves)
    (λ (is : LetsGo old place envelope new). unchanged old new is.same serves)
    does

gives_back : (old new : Group) (envelope : Envelope) → GivesBack old envelope new → ServesReturnedFirst old → ServesReturnedFirst new
gives_back old new envelope does serves =
    let job = job_of envelope.stamp in
    let adds = does.event in
    let jobs : jobs_in new.returned ≡ jobs_in old.returned ++ job ∷ [] =
    ap jobs_in does.returned ∙ map-append (λ w. w.job) old.returned (waits job envelope.message ∷ []) in
    grows old new _ serves adds
    (λ other. ap (count_of other) jobs
    ∙ lists_more times_returned old.state new.state job Returned adds.step.made.0 (jobs_in old.returned) (jobs_in old.returned ++ job ∷ [])
    (ap times_returned adds.step.may.ready) refl
    (λ one. omega (arith, count_of-append one (jobs_in old.returned) (job ∷ []))) serves.returned other) (λ member other is. absurd (cc))

pub given_back : (old new : Group) (place : ℕ) (envelope : Envelope) → IsGivenBack old place envelope new → ServesReturnedFirst old → ServesReturnedFirst new
given_back old new place envelope does serves =
    ⊎_elim
    (λ (is : IsOutAt old place envelope × GivesBack old envelope new). gives_back old new envelope is.1 serves)
    (λ (is : LetsGo old place envelope new). unchanged old new is.same serves)
    does

pub closed : (old new : Group) → Closes old new → ServesReturnedFirst old → ServesReturnedFirst new
closed old new does serves =
    ⊎_elim
    (λ (was : old.state.closed ≡ true). unchanged old new (does.again was) serves)
    (λ (was : old.state.closed ≡ false).
    let adds = does.closed was in
    let stays = adds.step.made.0 in
    grows old new Close serves adds
    (λ job. ap (λ l. count_of job (jobs_in l)) does.returned ∙ serves.returned job ∙ ap times_returned (sym (stays job))) (λ member job is. absurd (cc)))
    (either old.state.closed)
