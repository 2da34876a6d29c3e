-- What each event makes of what a group keeps.
use Rattle.std.proofs.Common.{◌≡◌, ◌≢◌, ℕ, suc, ◌+◌, ◌-◌, ◌<◌, ◌≤◌, Bool, true, false, cond, List, [], ◌∷◌, ◌++◌, length, get_or, Option, Some, None, is_some, IsSome, refl, sym, ap, ◌∙◌, subst, ⊎_elim, arith}
use Rattle.std.proofs.lemmas.List.{map-append}
use Rattle.std.proofs.lemmas.List.Quantifiers.{all_pairs_push}
use Rattle.dispatch_core.specs.declared.event.Job.{Job}
use Rattle.dispatch_core.specs.declared.event.Event.{Event}
use Rattle.dispatch_core.specs.declared.event.Event.TheVariants.{Accept, First, Ack, Refuse, Discard, Back, Again, Close}
use Rattle.dispatch_core.specs.declared.event.Spot.{Spot}
use Rattle.dispatch_core.specs.declared.event.Spot.TheVariants.{Queued, Held, Acked, Refused, Discarded, Returned}
use Rattle.dispatch_core.specs.GroupState.{GroupState, spot_of, accepted_of}
use Rattle.dispatch_core.specs.Step.{Step, Moves, HasOlderQueued, MayHappen, next_job}
use Rattle.dispatch_core.specs.History.{IsRun}
use Rattle.dispatch_core.specs.Lawful.{IsLawful, RisesByPort}
use Rattle.dispatch_core.specs.JobRuns.{count_of}
use Rattle.group_jobs.specs.declared.fate.Fate.{Fate}
use Rattle.group_jobs.specs.declared.fate.Fate.TheVariants as fate
use Rattle.local_group.specs.declared.waiting.Waiting.{Waiting}
use Rattle.local_group.specs.Groups.{event_of}
use Rattle.local_group.specs.Keeping.{front_of, closes_left, IsRanged, IsKept}
use Rattle.local_group.specs.Spots.{jobs_in}
use Rattle.group_jobs.specs.Spots.{times_queued, times_out, times_returned, Lists}
use Rattle.dispatch_core.proofs.Histories.{leads_push}
use Rattle.dispatch_core.proofs.JobLists.{count_of-cons, count_of-append}
use Rattle.dispatch_core.proofs.Spots.{same_job}
use Rattle.local_group.proofs.Counts.{count_of-same, count_of-other, count_of-place, count_of-there}
use Rattle.local_group.proofs.Spots.{lists_more, lists_less, lists_same, outs_more, outs_less, outs_same, one_out, queued_if, returned_if}

pub goes_on : (old new : GroupState) (events : List Event) (event : Event) → IsRun events old → Step old event new → IsRun (events ++ event ∷ []) new
goes_on old new events event run step = record { start = run.start; empty = run.empty; steps = leads_push run.start old new events event run.steps step }

-- ports and places stay in range where the job's and its holder's are
ranged_on : (old new : GroupState) (job : Job) (spot : Spot) → Moves old job spot new → job.port < 64 → ((place : ℕ) → spot ≡ Held place → place < 32) → IsRanged old → IsRanged new
ranged_on old new job spot moves port place ranged =
    record {
      ports = λ other some.
          ⊎_elim
          (λ (same : other ≡ job). subst (λ j. j.port < 64) (sym same) port)
          (λ (differs : other ≢ job). ranged.ports other (subst IsSome (moves.others other differs) some))
          (same_job other job);
      places = λ other holder held.
          ⊎_elim
          (λ (same : other ≡ job).
          let there : Some spot ≡ Some (Held holder) = sym moves.there ∙ ap (λ j. spot_of new j) (sym same) ∙ held in
          place holder (let e = there in cc))
          (λ (differs : other ≢ job). ranged.places other holder (sym (moves.others other differs) ∙ held))
          (same_job other job);
    }

-- the close is to come while the group is open
pub open_left : (state : GroupState) → state.closed ≡ false → closes_left state ≡ 1
open_left state is = ap (λ b. cond b 0 1) is

pub closed_left : (state : GroupState) → state.closed ≡ true → closes_left state ≡ 0
closed_left state is = ap (λ b. cond b 0 1) is

pub left_same : (old new : GroupState) → new.closed ≡ old.closed → closes_left new ≡ closes_left old
left_same old new same = ap (λ b. cond b 0 1) same

abbrev none_or_one : Bool → ℕ
none_or_one b = cond b 0 1

at_most_one : (b : Bool) → none_or_one b ≤ 1
at_most_one true = omega arith
at_most_one false = omega arith

pub left_most : (state : GroupState) → closes_left state ≤ 1
left_most state = at_most_one state.closed

-- a port's next job is nowhere
next_nowhere : (state : GroupState) (port : ℕ) (spot : Option Spot) → IsLawful state → spot_of state (next_job state port) ≡ spot → spot ≡ None
next_nowhere state port None lawful there = refl
next_nowhere state port (Some spot) lawful there =
    let less : accepted_of state port < accepted_of state port = (lawful.accepted (next_job state port)).0 (ap is_some there) in
    absurd (omega arith)

abbrev Rises : Job → Job → Type 0
Rises earlier later = earlier.port ≡ later.port → earlier.number < later.number

-- what is queued has a smaller number than its port's next job
older_number : (state : GroupState) (queue : List Waiting) (next : Job) (k : ℕ) (d : Job) → k < length (jobs_in queue) → (get_or (jobs_in queue) k d).port ≡ next.port
    → IsLawful state → Lists times_queued state (jobs_in queue) → next.number ≡ accepted_of state next.port → (get_or (jobs_in queue) k d).number < next.number
older_number state queue next k d within ports lawful lists is =
    let job = get_or (jobs_in queue) k d in
    let queued : spot_of state job ≡ Some Queued = queued_if (spot_of state job) (omega (arith, lists job, count_of-there (jobs_in queue) k d within)) in
    let less : job.number < accepted_of state job.port = (lawful.accepted job).0 (ap is_some queued) in
    let same : accepted_of state job.port ≡ accepted_of state next.port = ap (accepted_of state) ports in
    omega arith

-- a port accepts a message
pub kept_accept : (old new : GroupState) (events : List Event) (queue returned : List Waiting) (out port : ℕ) (waiting : Waiting)
    → waiting.job ≡ next_job old port → IsLawful old → IsKept old events queue returned out → Step old (Accept port) new
    → IsKept new (events ++ Accept port ∷ []) (queue ++ waiting ∷ []) returned out
kept_accept old new events queue returned out port waiting is lawful kept step =
    let next = next_job old port in
    let moves : Moves old next Queued new = step.made.0 in
    let nowhere : spot_of old next ≡ None = next_nowhere old port (spot_of old next) lawful refl in
    let jobs : jobs_in (queue ++ waiting ∷ []) ≡ jobs_in queue ++ next ∷ [] = map-append (λ w. w.job) queue (waiting ∷ []) ∙ ap (λ j. jobs_in queue ++ j ∷ []) is in
    record {
      run = goes_on old new events (Accept port) kept.run step;
      ranged = ranged_on old new next Queued moves step.may.in_range (λ place e. cc) kept.ranged;
      queued = λ job.
          ap (count_of job) jobs
          ∙ lists_more times_queued old new next Queued moves (jobs_in queue) (jobs_in queue ++ next ∷ []) (ap times_queued nowhere) refl
          (λ other. omega (arith, count_of-append other (jobs_in queue) (next ∷ []))) kept.queued job;
      rising = subst RisesByPort (sym jobs)
          (all_pairs_push Rises (jobs_in queue) next kept.rising
          (λ k d within ports. older_number old queue next k d within ports lawful kept.queued refl));
      back = lists_same times_returned old new next Queued moves (jobs_in returned) (ap times_returned nowhere) refl kept.back;
      outs = outs_same old new next Queued moves out kept.outs (ap times_out nowhere) refl;
    }

none_some : (job : Job) → None ≡ Some job → ⊥
none_some job e = cc

some_same : (a b : Job) → Some a ≡ Some b → a ≡ b
some_same a b e = cc

-- the front of the queue may be handed out for the first time
head_may : (state : GroupState) (events : List Event) (front : Waiting) (queue returned : List Waiting) (out place : ℕ)
    → place < 32 → state.closed ≡ false → IsKept state events (front ∷ queue) returned out → MayHappen state (First place front.job)
head_may state events front queue returned out place within not_closed kept =
    let job = front.job in
    let count = kept.queued job in
    let cons : count_of job (job ∷ jobs_in queue) ≡ count_of job (job ∷ []) + count_of job (jobs_in queue) = count_of-cons job job (jobs_in queue) in
    let queued : spot_of state job ≡ Some Queued = queued_if (spot_of state job) (omega (arith, count, cons, count_of-same job)) in
    record {
      in_range = (within, kept.ranged.ports job (ap is_some queued));
      not_closed = λ needs. not_closed;
      ready = (
        queued,
        λ (older : HasOlderQueued state job).
            let other : Job = record { port = job.port; number = older.0 } in
            let differs : other ≢ job = λ e. let n : older.0 ≡ job.number = ap (λ j. j.number) e in let less : older.0 < job.number = older.1 in omega arith in
            let stands : count_of other (job ∷ jobs_in queue) ≡ 1 = kept.queued other ∙ ap times_queued older.2 in
            let place = count_of-place (jobs_in queue) other (omega (arith, stands, count_of-cons other job (jobs_in queue), count_of-other other job differs)) in
            let rises = kept.rising 0 (suc place.0) job (omega arith) (let l : place.0 < length (jobs_in queue) = place.1 in omega arith) (ap (λ j. j.port) (sym (place.2 job))) in
            let numbers : get_or (jobs_in queue) place.0 job ≡ other = place.2 job in
            let after : job.number < older.0 = subst (λ (j : Job). job.number < j.number) numbers rises in
            let less : older.0 < job.number = older.1 in
            omega arith,
      );
    }

pub first_may : (state : GroupState) (events : List Event) (queue returned : List Waiting) (out place : ℕ) (job : Job)
    → front_of queue ≡ Some job → place < 32 → state.closed ≡ false → IsKept state events queue returned out → MayHappen state (First place job)
first_may state events [] returned out place job front within not_closed kept = absurd (none_some job front)
first_may state events (head ∷ queue) returned out place job front within not_closed kept =
    subst (λ j. MayHappen state (First place j)) (some_same head.job job front) (head_may state events head queue returned out place within not_closed kept)

rising_behind : (front : Job) (jobs : List Job) → RisesByPort (front ∷ jobs) → RisesByPort jobs
rising_behind front jobs rises = λ i j d less within. rises (suc i) (suc j) d (omega arith) (omega arith)

kept_head : (old new : GroupState) (events : List Event) (front : Waiting) (queue returned : List Waiting) (out place : ℕ)
    → IsKept old events (front ∷ queue) returned out → Step old (First place front.job) new
    → IsKept new (events ++ First place front.job ∷ []) queue returned (out + 1)
kept_head old new events front queue returned out place kept step =
    let job = front.job in
    let moves : Moves old job (Held place) new = step.made.0 in
    let queued : spot_of old job ≡ Some Queued = step.may.ready.0 in
    record {
      run = goes_on old new events (First place job) kept.run step;
      ranged = ranged_on old new job (Held place) moves step.may.in_range.1 (λ other e. subst (λ p. p < 32) (let f = e in cc) step.may.in_range.0) kept.ranged;
      queued = lists_less times_queued old new job (Held place) moves (job ∷ jobs_in queue) (jobs_in queue) (ap times_queued queued) refl (λ other. count_of-cons other job (jobs_in queue)) kept.queued;
      rising = rising_behind job (jobs_in queue) kept.rising;
      back = lists_same times_returned old new job (Held place) moves (jobs_in returned) (ap times_returned queued) refl kept.back;
      outs = outs_more old new job (Held place) moves out kept.outs (ap times_out queued) refl;
    }

pub kept_first : (old new : GroupState) (events : List Event) (all : List Waiting) (front : Waiting) (queue returned : List Waiting) (out place : ℕ) (job : Job)
    → all ≡ front ∷ queue → front_of all ≡ Some job → IsKept old events all returned out → Step old (First place job) new
    → IsKept new (events ++ First place job ∷ []) queue returned (out + 1)
kept_first old new events all front queue returned out place job is first kept step =
    let same : front.job ≡ job = some_same front.job job (ap front_of (sym is) ∙ first) in
    subst (λ j. IsKept new (events ++ First place j ∷ []) queue returned (out + 1)) same
    (kept_head old new events front queue returned out place (subst (λ l. IsKept old events l returned out) is kept) (subst (λ j. Step old (First place j) new) (sym same) step))

-- the front of those that were given back may be handed out again
back_may : (state : GroupState) (events : List Event) (front : Waiting) (queue returned : List Waiting) (out place : ℕ)
    → place < 32 → state.closed ≡ false → IsKept state events queue (front ∷ returned) out → MayHappen state (Again place front.job)
back_may state events front queue returned out place within not_closed kept =
    let job = front.job in
    let back : spot_of state job ≡ Some Returned = returned_if (spot_of state job) (omega (arith, kept.back job, count_of-cons job job (jobs_in returned), count_of-same job)) in
    record { in_range = (within, kept.ranged.ports job (ap is_some back)); not_closed = λ needs. not_closed; ready = back }

pub again_may : (state : GroupState) (events : List Event) (queue returned : List Waiting) (out place : ℕ) (job : Job)
    → front_of returned ≡ Some job → place < 32 → state.closed ≡ false → IsKept state events queue returned out → MayHappen state (Again place job)
again_may state events queue [] out place job front within not_closed kept = absurd (none_some job front)
again_may state events queue (head ∷ returned) out place job front within not_closed kept =
    subst (λ j. MayHappen state (Again place j)) (some_same head.job job front) (back_may state events head queue returned out place within not_closed kept)

kept_head_again : (old new : GroupState) (events : List Event) (front : Waiting) (queue returned : List Waiting) (out place : ℕ)
    → IsKept old events queue (front ∷ returned) out → Step old (Again place front.job) new
    → IsKept new (events ++ Again place front.job ∷ []) queue returned (out + 1)
kept_head_again old new events front queue returned out place kept step =
    let job = front.job in
    let moves : Moves old job (Held place) new = step.made.0 in
    let back : spot_of old job ≡ Some Returned = step.may.ready in
    record {
      run = goes_on old new events (Again place job) kept.run step;
      ranged = ranged_on old new job (Held place) moves step.may.in_range.1 (λ other e. subst (λ p. p < 32) (let f = e in cc) step.may.in_range.0) kept.ranged;
      queued = lists_same times_queued old new job (Held place) moves (jobs_in queue) (ap times_queued back) refl kept.queued;
      rising = kept.rising;
      back = lists_less times_returned old new job (Held place) moves (job ∷ jobs_in returned) (jobs_in returned) (ap times_returned back) refl (λ other. count_of-cons other job (jobs_in returned)) kept.back;
      outs = outs_more old new job (Held place) moves out kept.outs (ap times_out back) refl;
    }

pub kept_again : (old new : GroupState) (events : List Event) (queue all : List Waiting) (front : Waiting) (returned : List Waiting) (out place : ℕ) (job : Job)
    → all ≡ front ∷ returned → front_of all ≡ Some job → IsKept old events queue all out → Step old (Again place job) new
    → IsKept new (events ++ Again place job ∷ []) queue returned (out + 1)
kept_again old new events queue all front returned out place job is first kept step =
    let same : front.job ≡ job = some_same front.job job (ap front_of (sym is) ∙ first) in
    subst (λ j. IsKept new (events ++ Again place j ∷ []) queue returned (out + 1)) same
    (kept_head_again old new events front queue returned out place (subst (λ l. IsKept old events queue l out) is kept) (subst (λ j. Step old (Again place j) new) (sym same) step))

-- a job that is out is settled: its new spot is for good
pub kept_settled : (old new : GroupState) (events : List Event) (event : Event) (queue returned : List Waiting) (out place : ℕ) (job : Job) (spot : Spot)
    → spot_of old job ≡ Some (Held place) → Moves old job spot new → times_queued (Some spot) ≡ 0 → times_returned (Some spot) ≡ 0 → times_out (Some spot) ≡ 0
    → IsKept old events queue returned out → Step old event new → IsKept new (events ++ event ∷ []) queue returned (out - 1)
kept_settled old new events event queue returned out place job spot held moves unqueued unreturned over kept step =
    record {
      run = goes_on old new events event kept.run step;
      ranged = ranged_on old new job spot moves (kept.ranged.ports job (ap is_some held))
          (λ other e. let one : times_out (Some spot) ≡ 1 = ap (λ s. times_out (Some s)) e in absurd (omega arith)) kept.ranged;
      queued = lists_same times_queued old new job spot moves (jobs_in queue) (ap times_queued held) unqueued kept.queued;
      rising = kept.rising;
      back = lists_same times_returned old new job spot moves (jobs_in returned) (ap times_returned held) unreturned kept.back;
      outs = outs_less old new job spot moves out kept.outs (ap times_out held) over;
    }

-- what a place holds may be settled by it
pub may_fate : (fate : Fate) (state : GroupState) (place : ℕ) (job : Job) → IsRanged state → spot_of state job ≡ Some (Held place)
    → MayHappen state (event_of fate place job)
may_fate fate.Acknowledged state place job ranged held = record { in_range = (ranged.places job place held, ranged.ports job (ap is_some held)); not_closed = λ needs. absurd needs; ready = held }
may_fate fate.Refused state place job ranged held = record { in_range = (ranged.places job place held, ranged.ports job (ap is_some held)); not_closed = λ needs. absurd needs; ready = held }
may_fate fate.Discarded state place job ranged held = record { in_range = (ranged.places job place held, ranged.ports job (ap is_some held)); not_closed = λ needs. absurd needs; ready = held }

-- by whatever fate
pub kept_fate : (fate : Fate) (old new : GroupState) (events : List Event) (queue returned : List Waiting) (out place : ℕ) (job : Job)
    → IsKept old events queue returned out → Step old (event_of fate place job) new
    → IsKept new (events ++ event_of fate place job ∷ []) queue returned (out - 1) × (1 ≤ out) × (closes_left new ≡ closes_left old)
kept_fate fate.Acknowledged old new events queue returned out place job kept step =
    let moves = step.made.0 in
    let held : spot_of old job ≡ Some (Held place) = step.may.ready in (
      kept_settled old new events (Ack place job) queue returned out place job (Acked place) held moves refl refl refl kept step,
      one_out old new job (Acked place) moves out kept.outs (ap times_out held),
      left_same old new step.made.2,
    )
kept_fate fate.Refused old new events queue returned out place job kept step =
    let moves = step.made.0 in
    let held : spot_of old job ≡ Some (Held place) = step.may.ready in (
      kept_settled old new events (Refuse place job) queue returned out place job (Refused place) held moves refl refl refl kept step,
      one_out old new job (Refused place) moves out kept.outs (ap times_out held),
      left_same old new step.made.2,
    )
kept_fate fate.Discarded old new events queue returned out place job kept step =
    let moves = step.made.0 in
    let held : spot_of old job ≡ Some (Held place) = step.may.ready in (
      kept_settled old new events (Discard place job) queue returned out place job (Discarded place) held moves refl refl refl kept step,
      one_out old new job (Discarded place) moves out kept.outs (ap times_out held),
      left_same old new step.made.2,
    )

-- a job that is out is given back
pub kept_back : (old new : GroupState) (events : List Event) (queue returned : List Waiting) (out place : ℕ) (waiting : Waiting)
    → IsKept old events queue returned out → Step old (Back place waiting.job) new
    → IsKept new (events ++ Back place waiting.job ∷ []) queue (returned ++ waiting ∷ []) (out - 1)
kept_back old new events queue returned out place waiting kept step =
    let job = waiting.job in
    let moves : Moves old job Returned new = step.made.0 in
    let held : spot_of old job ≡ Some (Held place) = step.may.ready in
    let jobs : jobs_in (returned ++ waiting ∷ []) ≡ jobs_in returned ++ job ∷ [] = map-append (λ w. w.job) returned (waiting ∷ []) in
    record {
      run = goes_on old new events (Back place job) kept.run step;
      ranged = ranged_on old new job Returned moves step.may.in_range.1 (λ other e. cc) kept.ranged;
      queued = lists_same times_queued old new job Returned moves (jobs_in queue) (ap times_queued held) refl kept.queued;
      rising = kept.rising;
      back = λ other.
          ap (count_of other) jobs
          ∙ lists_more times_returned old new job Returned moves (jobs_in returned) (jobs_in returned ++ job ∷ []) (ap times_returned held) refl
          (λ one. omega (arith, count_of-append one (jobs_in returned) (job ∷ []))) kept.back other;
      outs = outs_less old new job Returned moves out kept.outs (ap times_out held) refl;
    }

-- the group is closed
pub kept_close : (old new : GroupState) (events : List Event) (queue returned : List Waiting) (out : ℕ)
    → IsKept old events queue returned out → Step old Close new → IsKept new (events ++ Close ∷ []) queue returned out
kept_close old new events queue returned out kept step =
    let stays = step.made.0 in
    record {
      run = goes_on old new events Close kept.run step;
      ranged = record {
        ports = λ job some. kept.ranged.ports job (subst IsSome (stays job) some);
        places = λ job place held. kept.ranged.places job place (sym (stays job) ∙ held);
      };
      queued = λ job. kept.queued job ∙ ap times_queued (sym (stays job));
      rising = kept.rising;
      back = λ job. kept.back job ∙ ap times_returned (sym (stays job));
      outs = record { jobs = kept.outs.jobs; out = λ job. kept.outs.out job ∙ ap times_out (sym (stays job)); many = kept.outs.many };
    }
