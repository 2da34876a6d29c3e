-- What is out at a place, from call to call.
use Rattle.std.proofs.Common.{◌≡◌, ℕ, ◌+◌, ◌≤◌, Bool, true, false, cond, eqb, eqb-true, List, [], ◌∷◌, ◌++◌, All, Contains, Option, Some, None, Result, Ok, Err, refl, sym, ap, ◌∙◌, subst, arith}
use Rattle.std.specs.Prelude.{◌&&◌}
use Rattle.std.proofs.lemmas.List.{map-append}
use Rattle.std.proofs.lemmas.List.Elements.{All-nil, All-cons, All-head, All-tail, All-append, All-push, All-weaker}
use Rattle.dispatch_core.specs.declared.event.Job.{Job}
use Rattle.dispatch_core.specs.JobRuns.{count_of}
use Rattle.dispatch_core.proofs.JobLists.{count_of-append, count_of-cons, count_of_contained}
use Rattle.group_jobs.specs.declared.error.JobError.{JobError}
use Rattle.group_jobs.specs.declared.fate.Fate.{Fate}
use Rattle.group_jobs.specs.declared.ledger.Ledger.{Ledger}
use Rattle.group_jobs.specs.Stamps.{Held, job_of, under}
use Rattle.group_jobs.specs.Dockets.{TakesOff}
use Rattle.group_queue.specs.declared.posted.Posted.{Posted}
use Rattle.group_queue.specs.declared.view.Bag.{Bag}
use Rattle.group_queue.specs.declared.view.View.{View}
use Rattle.group_queue.specs.Places.{PlaceState, Holds, IsHandedOut, KeepsPlace, SettlesHeld, GatherAnswers, GiveBackAnswers, TakeAnswers, TakeBackAnswers}
use Rattle.shared_ledger.specs.declared.share.LedgerShare.{LedgerShare}
use Rattle.shared_ledger.specs.Givers.{Gathers}
use Rattle.group_queue.proofs.Checks.{positive, both}
use Rattle.conn_supply.specs.declared.supply.NoMemory.{NoMemory}
use Rattle.conn_supply.specs.Holding.{IsAmong, KeepsOut, FindsOut, SpendsOut, ReturnsOut}
use Rattle.broker_groups.specs.Outs.{HasOut, IsHandedTo, jobs_out}
use Rattle.broker_groups.specs.Answers.{in_group}

-- it is the same place
record IsSame (old new : PlaceState) : Type 0 where
  group : new.group ≡ old.group
  number : new.number ≡ old.number

stays : (old new : PlaceState) (all : List Held) → IsSame old new → All (IsHandedTo old) all → All (IsHandedTo new) all
stays old new all same its = All-weaker (IsHandedTo old) (IsHandedTo new) (λ envelope is. (is.0 ∙ sym same.group, is.1 ∙ sym same.number)) all its

apart : {X : Type 0} (P : X → Type 0) (xs ys : List X) → All P (xs ++ ys) → All P xs × All P ys
apart P [] ys all = (All-nil P, all)
apart P (x ∷ xs) ys all =
    let rest = apart P xs ys (All-tail P x (xs ++ ys) all) in
    (All-cons P x xs (All-head P x (xs ++ ys) all) rest.0, rest.1)

-- a job that counts is there
counted : (jobs : List Job) (job : Job) → 1 ≤ count_of job jobs → Contains jobs job
counted jobs job some =
    let found = positive (λ (other : Job). cond ((eqb other.port job.port) && (eqb other.number job.number)) 1 0) jobs some in
    let same = both (eqb found.0.port job.port) (eqb found.0.number job.number) found.2 in
    subst (Contains jobs) (λ i. record { port = eqb-true found.0.port job.port same.0 i; number = eqb-true found.0.number job.number same.1 i }) found.1

-- a list with one job more, wherever it stands
with_one : (job one : Job) (front behind : List Job) → count_of job (front ++ one ∷ behind) ≡ count_of job (front ++ behind) + count_of job (one ∷ [])
with_one job one front behind = omega (arith, count_of-append job front (one ∷ behind), count_of-append job front behind, count_of-cons job one behind)

keeps : (old new : PlaceState) → IsSame old new → new.docket.out ≡ old.docket.out → KeepsOut HasOut old new
keeps old new same out all has = record { its = stays old new all same has.its; jobs = λ job. has.jobs job ∙ ap (count_of job) (sym out) }

finds : (old new : PlaceState) (posted : Posted) (envelope : Held) (all : List Held) (subscription : Option ℕ) → IsSame old new → IsHandedOut old posted envelope new → HasOut old all
    → HasOut new (all ++ under subscription envelope ∷ [])
finds old new posted envelope all subscription same handed has = record {
  its = All-push (IsHandedTo new) all (under subscription envelope) (stays old new all same has.its)
      (ap (λ (e : Held). e.stamp.group) handed.envelope_is ∙ sym same.group, ap (λ (e : Held). e.place) handed.envelope_is ∙ sym same.number);
  jobs = λ job. omega (
    arith,
    has.jobs job,
    ap (count_of job) (map-append (λ (e : Held). job_of e.stamp) all (under subscription envelope ∷ [])),
    count_of-append job (jobs_out all) (job_of envelope.stamp ∷ []),
    ap (λ (e : Held). count_of job (job_of e.stamp ∷ [])) handed.envelope_is,
    ap (count_of job) handed.out,
    count_of-append job old.docket.out (posted.job ∷ []),
  );
}

spends : (old new : PlaceState) (envelope : Held) → IsSame old new → TakesOff old.docket.out (job_of envelope.stamp) new.docket.out → SpendsOut HasOut old envelope new
spends old new envelope same off all others one has =
    let front = apart (IsHandedTo old) one.before (envelope ∷ one.behind) (subst (All (IsHandedTo old)) one.together has.its) in
    let behind = All-tail (IsHandedTo old) envelope one.behind front.1 in
    record {
      its = stays old new others same (subst (All (IsHandedTo old)) (sym one.apart) (All-append (IsHandedTo old) one.before one.behind front.0 behind));
      jobs = λ job. omega (
        arith,
        has.jobs job,
        ap (λ l. count_of job (jobs_out l)) one.together,
        ap (λ l. count_of job (jobs_out l)) one.apart,
        ap (count_of job) (map-append (λ (e : Held). job_of e.stamp) one.before (envelope ∷ one.behind)),
        ap (count_of job) (map-append (λ (e : Held). job_of e.stamp) one.before one.behind),
        with_one job (job_of envelope.stamp) (jobs_out one.before) (jobs_out one.behind),
        ap (count_of job) off.was,
        ap (count_of job) off.is,
        with_one job (job_of envelope.stamp) off.front off.behind,
      );
    }

-- a message that is among those that are out is one that the place holds
pub held : (place : PlaceState) (envelope : Held) → IsAmong HasOut place envelope → Holds place envelope
held place envelope among =
    let behind = (apart (IsHandedTo place) among.one.before (envelope ∷ among.one.behind) (subst (All (IsHandedTo place)) among.one.together among.out.its)).1 in
    let its = All-head (IsHandedTo place) envelope among.one.behind behind in
    let job = job_of envelope.stamp in
    let one : 1 ≤ count_of job (job ∷ []) = count_of_contained (job ∷ []) job (0, omega arith, refl) in (
      its.0,
      its.1,
      counted place.docket.out job (omega (
        arith,
        among.out.jobs job,
        ap (λ l. count_of job (jobs_out l)) among.one.together,
        ap (count_of job) (map-append (λ (e : Held). job_of e.stamp) among.one.before (envelope ∷ among.one.behind)),
        with_one job job (jobs_out among.one.before) (jobs_out among.one.behind),
        one,
      )),
    )

of_kept : (old new : PlaceState) → KeepsPlace old new → KeepsOut HasOut old new
of_kept old new keep = keeps old new (record { group = ap (λ (p : PlaceState). p.group) keep.others; number = ap (λ (p : PlaceState). p.number) keep.others }) keep.docket.out

-- what the calls of a group say, as what is out
pub taken : (saw : List Posted → List View → Type 0) (old new : PlaceState) (answer : Result (Option Held) NoMemory) → TakeAnswers saw old (in_group answer) new → FindsOut HasOut old answer new
taken saw old new (Ok (Some envelope)) is all subscription has =
    finds old new is.posted envelope all subscription (record { group = ap (λ (p : PlaceState). p.group) is.others; number = ap (λ (p : PlaceState). p.number) is.others }) is.handed has
taken saw old new (Ok None) is all subscription has = of_kept old new is.0 all has
taken saw old new (Err refusal) is all subscription has = of_kept old new is.0 all has

pub taken_back : (saw : List Posted → List Bag → Type 0) (old new : PlaceState) (answer : Result (Option Held) NoMemory) → TakeBackAnswers saw old (in_group answer) new → FindsOut HasOut old answer new
taken_back saw old new (Ok (Some envelope)) is all subscription has =
    finds old new is.posted envelope all subscription (record { group = ap (λ (p : PlaceState). p.group) is.others; number = ap (λ (p : PlaceState). p.number) is.others }) is.handed has
taken_back saw old new (Ok None) is all subscription has = of_kept old new is.0 all has
taken_back saw old new (Err refusal) is all subscription has = of_kept old new is.0 all has

pub settled : (old new : PlaceState) (envelope : Held) (fate : Fate) → SettlesHeld old (job_of envelope.stamp) fate new → SpendsOut HasOut old envelope new
settled old new envelope fate is =
    spends old new envelope (record { group = ap (λ (p : PlaceState). p.group) is.others; number = ap (λ (p : PlaceState). p.number) is.others }) is.out

pub given_back : (old new : PlaceState) (envelope : Held) (answer : Result (Unit {0}) Held) → GiveBackAnswers old envelope answer new → ReturnsOut HasOut old envelope answer new
given_back old new envelope (Ok done) is =
    spends old new envelope (record { group = ap (λ (p : PlaceState). p.group) is.others; number = ap (λ (p : PlaceState). p.number) is.others }) is.out
given_back old new envelope (Err back) is =
    keeps old new (record { group = ap (λ (p : PlaceState). p.group) is.1; number = ap (λ (p : PlaceState). p.number) is.1 }) (ap (λ (p : PlaceState). p.docket.out) is.1)

pub reserved : (old new : PlaceState) → KeepsPlace old new → KeepsOut HasOut old new
reserved old new is = of_kept old new is

-- what a place gathers is not out at it
gathers_out : (saw : List Ledger → List LedgerShare → Type 0) (old new : PlaceState) (answer : Result Bool JobError) → Gathers saw old.giver old.docket answer new.giver new.docket → new.docket.out ≡ old.docket.out
gathers_out saw old new (Ok true) is = is.out
gathers_out saw old new (Ok false) is = ap (λ d. d.out) is.1
gathers_out saw old new (Err refusal) is = ap (λ d. d.out) is.1

pub gathered : (saw : List Ledger → List LedgerShare → Type 0) (old new : PlaceState) (answer : Result Bool JobError) → GatherAnswers saw old answer new → KeepsOut HasOut old new
gathered saw old new answer is =
    keeps old new (record { group = ap (λ (p : PlaceState). p.group) is.1; number = ap (λ (p : PlaceState). p.number) is.1 }) (gathers_out saw old new answer is.0)
