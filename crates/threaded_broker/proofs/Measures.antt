-- What each call makes of the place that it changes: how often that was handed a message, gave it back, and settled it.
use Rattle.std.proofs.Common.{◌≡◌, ◌≢◌, ℕ, ◌+◌, ◌<◌, ◌≤◌, ◌%◌, Bool, true, false, ◌&&◌, nat_eq, if◌then◌else◌, List, [], ◌∷◌, ◌++◌, Option, Some, None, Result, Ok, Err, refl, sym, ap, ◌∙◌, ⊎_elim, arith}
use Rattle.std.proofs.lemmas.Bool.{cases_eq, cases_lt}
use Rattle.std.proofs.lemmas.List.{map-append}
use Rattle.std.proofs.lemmas.List.Sums.{sum_by-append, sum_by-cons}
use Rattle.dispatch_core.specs.declared.event.Job.{Job}
use Rattle.dispatch_core.specs.JobRuns.{count_of, jobs_of}
use Rattle.dispatch_core.proofs.JobLists.{count_of-append, count_of-cons}
use Rattle.dispatch_core.proofs.Stored.{counts_permuted}
use Rattle.group_jobs.specs.declared.fate.Fate.{Fate}
use Rattle.group_jobs.specs.declared.fate.Fate.TheVariants.{Acknowledged, Refused, Discarded}
use Rattle.group_jobs.specs.declared.ledger.Ledger.{Ledger}
use Rattle.group_jobs.specs.Settled.{Settles, settled_as}
use Rattle.group_jobs.specs.Stamps.{Held, job_of}
use Rattle.group_jobs.specs.Dockets.{Kept}
use Rattle.shared_ledger.specs.Giving.{times_in}
use Rattle.shared_ledger.specs.Givers.{GiverState}
use Rattle.shared_ledger.specs.declared.share.LedgerShare.{LedgerShare}
use Rattle.group_queue.specs.declared.posted.Posted.{Posted}
use Rattle.group_queue.specs.declared.view.Bag.{Bag}
use Rattle.group_queue.specs.declared.view.View.{View}
use Rattle.group_queue.specs.Ports.{GroupId}
use Rattle.group_queue.specs.Places.{GiveBackAnswers, PlaceState, TakeAnswers, TakeBackAnswers, jobs_in}
use Rattle.broker_groups.specs.Answers.{Sights, in_group}
use Rattle.broker_groups.specs.Naming.{once_at}
use Rattle.conn_supply.specs.declared.supply.NoMemory.{NoMemory}
use Rattle.conn_supply.specs.SupplyCalls.{SupplyCall}
use Rattle.conn_supply.specs.SupplyCalls.SupplyCall.{Attach, Withdraw, Kicked, Park, ParkAsIs, Keep, Bury, Sweep, LendPlace, TakePlace, Bind, Find, Match, Offer, MayTake, Take, TakeBack, Settle, GiveBack}
use Rattle.shared_supply.specs.Calls.{Calls}
use Rattle.shared_supply.specs.Settling.{Gathers, SettlesAndGathers, runs_at}
use Rattle.shared_supply.specs.Workers.{Worker}
use Rattle.final_report.specs.Messages.{times_first_handed, times_handed_again, times_given_back, times_settled_at}
use Rattle.threaded_broker.specs.Places.{first_handed, given_back, handed_again, once_as, once_handed, once_taken, only_at, only_by, settled_there}
use Rattle.threaded_broker.proofs.Balance.{Gains}

-- of the place of this slot and number, how often it was handed the message with this job for the first time, and again, gave it back, and settled it
abbrev pub first_at : (slot number : ℕ) → Job → PlaceState → ℕ
first_at slot number job place = only_at slot number place (times_first_handed job place)

abbrev pub again_at : (slot number : ℕ) → Job → PlaceState → ℕ
again_at slot number job place = only_at slot number place (times_handed_again job place)

abbrev pub given_at : (slot number : ℕ) → Job → PlaceState → ℕ
given_at slot number job place = only_at slot number place (times_given_back job place)

abbrev pub settled_at : (slot number : ℕ) → Fate → Job → PlaceState → ℕ
settled_at slot number fate job place = only_at slot number place (times_settled_at fate job place)

if_both : (here : Bool) (one other : ℕ) → (if here then one + other else 0) ≡ (if here then one else 0) + (if here then other else 0)
if_both true one other = refl
if_both false one other = refl

-- the place of the same slot and number, that did it so many times more
more_at : (slot number : ℕ) (old new : PlaceState) (were are more : ℕ) → new.group ≡ old.group → new.number ≡ old.number → are ≡ were + more
    → only_at slot number new are ≡ only_at slot number old were + only_at slot number old more
more_at slot number old new were are more same its is =
    (λ i. if nat_eq (same i) slot && nat_eq (its i) number then is i else 0)
    ∙ if_both (nat_eq old.group slot && nat_eq old.number number) were more

if_same : (here : Bool) (times : ℕ) → (if here then times else times) ≡ times
if_same true times = refl
if_same false times = refl

pub none_at : (slot number : ℕ) (old : PlaceState) → only_at slot number old 0 ≡ 0
none_at slot number old = if_same (nat_eq old.group slot && nat_eq old.number number) 0

-- or just as often
same_at : (slot number : ℕ) (old new : PlaceState) (were are : ℕ) → new.group ≡ old.group → new.number ≡ old.number → are ≡ were → only_at slot number new are ≡ only_at slot number old were + 0
same_at slot number old new were are same its is =
    let more = more_at slot number old new were are 0 same its (omega (arith, is)) in
    omega (arith, more, none_at slot number old)

-- one more of a list of messages
one_more : (job : Job) (list : List Posted) (posted : Posted) → count_of job (jobs_in (list ++ posted ∷ [])) ≡ count_of job (jobs_in list) + count_of job (posted.job ∷ [])
one_more job list posted = ap (count_of job) (map-append (λ (p : Posted). p.job) list (posted ∷ [])) ∙ count_of-append job (jobs_in list) (posted.job ∷ [])

-- what a place did, after a call
record DoesMore (old new : PlaceState) (firsts agains given : Job → ℕ) (settled : Fate → Job → ℕ) : Type 0 where
  group : new.group ≡ old.group
  number : new.number ≡ old.number
  first : (job : Job) → times_first_handed job new ≡ times_first_handed job old + firsts job
  again : (job : Job) → times_handed_again job new ≡ times_handed_again job old + agains job
  back : (job : Job) → times_given_back job new ≡ times_given_back job old + given job
  fates : (fate : Fate) (job : Job) → times_settled_at fate job new ≡ times_settled_at fate job old + settled fate job

abbrev never : Job → ℕ
never job = 0

abbrev by_none : Fate → Job → ℕ
by_none fate job = 0

-- by no fate more
kept_fates : (old new : PlaceState) → ((fate : Fate) → settled_as fate new.docket.settled ≡ settled_as fate old.docket.settled) → new.giver.gave ≡ old.giver.gave
    → (fate : Fate) (job : Job) → times_settled_at fate job new ≡ times_settled_at fate job old + 0
kept_fates old new kept gave fate job =
    let docket = ap (count_of job) (kept fate) in
    let given = ap (λ ledgers. times_in ledgers fate job) gave in
    omega (arith, docket, given)

-- a place that is the same but for its docket, in which nothing more is settled
stays : (old new : PlaceState) → new ≡ record old { docket = new.docket } → ((fate : Fate) → settled_as fate new.docket.settled ≡ settled_as fate old.docket.settled) → DoesMore old new never never never by_none
stays old new others kept = record {
  group = ap (λ (p : PlaceState). p.group) others;
  number = ap (λ (p : PlaceState). p.number) others;
  first = λ job. let is = ap (times_first_handed job) others in omega (arith, is);
  again = λ job. let is = ap (times_handed_again job) others in omega (arith, is);
  back = λ job. let is = ap (times_given_back job) others in omega (arith, is);
  fates = kept_fates old new kept (ap (λ (p : PlaceState). p.giver.gave) others);
}

unchanged : (old new : PlaceState) → new ≡ old → DoesMore old new never never never by_none
unchanged old new same = stays old new (same ∙ ap (λ (p : PlaceState). record old { docket = p.docket }) (sym same)) (λ fate. ap (λ (p : PlaceState). settled_as fate p.docket.settled) same)

-- it was handed a message, or not
taken_more : (saw : List Posted → List View → Type 0) (answer : Result (Option Held) NoMemory) (old new : PlaceState) → TakeAnswers saw old (in_group answer) new
    → DoesMore old new (λ job. once_handed job answer) never never by_none
taken_more saw (Ok (Some envelope)) old new does = record {
  group = ap (λ (p : PlaceState). p.group) does.others;
  number = ap (λ (p : PlaceState). p.number) does.others;
  first = λ job.
      let is = ap (times_first_handed job) does.others in
      let its = ap (once_as job) does.handed.envelope_is in
      omega (arith, is, one_more job old.firsts does.posted, its);
  again = λ job. let is = ap (times_handed_again job) does.others in omega (arith, is);
  back = λ job. let is = ap (times_given_back job) does.others in omega (arith, is);
  fates = kept_fates old new (λ fate. ap jobs_of (does.handed.settled fate)) (ap (λ (p : PlaceState). p.giver.gave) does.others);
}
taken_more saw (Ok None) old new does = stays old new does.0.others (λ fate. ap jobs_of (does.0.docket.settled fate))
taken_more saw (Err refusal) old new does = stays old new does.0.others (λ fate. ap jobs_of (does.0.docket.settled fate))

-- again, or not
taken_back : (saw : List Posted → List Bag → Type 0) (answer : Result (Option Held) NoMemory) (old new : PlaceState) → TakeBackAnswers saw old (in_group answer) new
    → DoesMore old new never (λ job. once_handed job answer) never by_none
taken_back saw (Ok (Some envelope)) old new does = record {
  group = ap (λ (p : PlaceState). p.group) does.others;
  number = ap (λ (p : PlaceState). p.number) does.others;
  first = λ job. let is = ap (times_first_handed job) does.others in omega (arith, is);
  again = λ job.
      let is = ap (times_handed_again job) does.others in
      let its = ap (once_as job) does.handed.envelope_is in
      omega (arith, is, one_more job old.agains does.posted, its);
  back = λ job. let is = ap (times_given_back job) does.others in omega (arith, is);
  fates = kept_fates old new (λ fate. ap jobs_of (does.handed.settled fate)) (ap (λ (p : PlaceState). p.giver.gave) does.others);
}
taken_back saw (Ok None) old new does = stays old new does.0.others (λ fate. ap jobs_of (does.0.docket.settled fate))
taken_back saw (Err refusal) old new does = stays old new does.0.others (λ fate. ap jobs_of (does.0.docket.settled fate))

-- it gave a message back, or not
gave_back : (envelope : Held) (answer : Result (Unit {0}) Held) (old new : PlaceState) → GiveBackAnswers old envelope answer new → DoesMore old new never never (λ job. once_taken job envelope answer) by_none
gave_back envelope (Ok done) old new does = record {
  group = ap (λ (p : PlaceState). p.group) does.others;
  number = ap (λ (p : PlaceState). p.number) does.others;
  first = λ job. let is = ap (times_first_handed job) does.others in omega (arith, is);
  again = λ job. let is = ap (times_handed_again job) does.others in omega (arith, is);
  back = λ job. let is = ap (times_given_back job) does.others in omega (arith, is, one_more job old.given (record { job = job_of envelope.stamp; message = envelope.message }));
  fates = kept_fates old new (λ fate. ap jobs_of (does.settled fate)) (ap (λ (p : PlaceState). p.giver.gave) does.others);
}
gave_back envelope (Err back) old new does = unchanged old new does.1

-- one more is settled by a fate, and none by another
settled_one : (its fate : Fate) (job other : Job) (old new : Ledger) → Settles old job its new → count_of other (settled_as fate new) ≡ count_of other (settled_as fate old) + only_by fate its (count_of other (job ∷ []))
settled_one Acknowledged Acknowledged job other old new does =
    omega (arith, counts_permuted (job ∷ settled_as Acknowledged old) (settled_as Acknowledged new) other does.there, count_of-cons other job (settled_as Acknowledged old))
settled_one Refused Refused job other old new does =
    omega (arith, counts_permuted (job ∷ settled_as Refused old) (settled_as Refused new) other does.there, count_of-cons other job (settled_as Refused old))
settled_one Discarded Discarded job other old new does =
    omega (arith, counts_permuted (job ∷ settled_as Discarded old) (settled_as Discarded new) other does.there, count_of-cons other job (settled_as Discarded old))
settled_one Acknowledged Refused job other old new does = let same = ap (λ list. count_of other (jobs_of list.runs)) (does.others Refused (λ e. cc)) in omega (arith, same)
settled_one Acknowledged Discarded job other old new does = let same = ap (λ list. count_of other (jobs_of list.runs)) (does.others Discarded (λ e. cc)) in omega (arith, same)
settled_one Refused Acknowledged job other old new does = let same = ap (λ list. count_of other (jobs_of list.runs)) (does.others Acknowledged (λ e. cc)) in omega (arith, same)
settled_one Refused Discarded job other old new does = let same = ap (λ list. count_of other (jobs_of list.runs)) (does.others Discarded (λ e. cc)) in omega (arith, same)
settled_one Discarded Acknowledged job other old new does = let same = ap (λ list. count_of other (jobs_of list.runs)) (does.others Acknowledged (λ e. cc)) in omega (arith, same)
settled_one Discarded Refused job other old new does = let same = ap (λ list. count_of other (jobs_of list.runs)) (does.others Refused (λ e. cc)) in omega (arith, same)

-- what it settled is in its docket, or in what it gave to its group's ledger
gathered : (saw : List Ledger → List LedgerShare → Type 0) (old new : PlaceState) (is_missed : Bool) → Gathers saw old is_missed new → DoesMore old new never never never by_none
gathered saw old new true does = stays old new (does.1 ∙ ap (λ giver. record old { docket = new.docket; giver = giver }) does.0.0) (λ fate. ap (λ (docket : Kept). settled_as fate docket.settled) does.0.1)
gathered saw old new false does = record {
  group = ap (λ (p : PlaceState). p.group) does.1;
  number = ap (λ (p : PlaceState). p.number) does.1;
  first = λ job. let is = ap (times_first_handed job) does.1 in omega (arith, is);
  again = λ job. let is = ap (times_handed_again job) does.1 in omega (arith, is);
  back = λ job. let is = ap (times_given_back job) does.1 in omega (arith, is);
  fates = λ fate job.
      let gives = does.0 in
      let none = ap (λ runs. count_of job (jobs_of runs)) (gives.settled fate) in
      let gave = ap (λ (giver : GiverState). times_in giver.gave fate job) gives.is in
      let last = sum_by-append (λ ledger. count_of job (settled_as fate ledger)) old.giver.gave (gives.given ∷ []) in
      let given = sum_by-cons (λ ledger. count_of job (settled_as fate ledger)) gives.given [] in
      omega (arith, none, gave, last, given, gives.counts fate job);
}

-- one thing after the other, of which the second is no message
both_more : (old mid new : PlaceState) (firsts agains given : Job → ℕ) (settled : Fate → Job → ℕ) → DoesMore old mid firsts agains given settled → DoesMore mid new never never never by_none
    → DoesMore old new firsts agains given settled
both_more old mid new firsts agains given settled one other = record {
  group = other.group ∙ one.group;
  number = other.number ∙ one.number;
  first = λ job. omega (arith, one.first job, other.first job);
  again = λ job. omega (arith, one.again job, other.again job);
  back = λ job. omega (arith, one.back job, other.back job);
  fates = λ fate job. omega (arith, one.fates fate job, other.fates fate job);
}

settled_more : (saw : List Ledger → List LedgerShare → Type 0) (envelope : Held) (its : Fate) (is_missed : Bool) (old new : PlaceState) → SettlesAndGathers saw old envelope its is_missed new
    → DoesMore old new never never never (λ fate job. only_by fate its (once_as job envelope))
settled_more saw envelope its is_missed old new does =
    let others = does.settles.others in
    let settled : DoesMore old does.settled never never never (λ fate job. only_by fate its (once_as job envelope)) = record {
      group = ap (λ (p : PlaceState). p.group) others;
      number = ap (λ (p : PlaceState). p.number) others;
      first = λ job. let is = ap (times_first_handed job) others in omega (arith, is);
      again = λ job. let is = ap (times_handed_again job) others in omega (arith, is);
      back = λ job. let is = ap (times_given_back job) others in omega (arith, is);
      fates = λ fate job.
          let docket = settled_one its fate (job_of envelope.stamp) job old.docket.settled does.settled.docket.settled does.settles.settled in
          let gave = ap (λ (p : PlaceState). times_in p.giver.gave fate job) others in
          omega (arith, docket, gave);
    } in
    let more : DoesMore does.settled new never never never by_none =
    ⊎_elim
    (λ (fuller : runs_at old < runs_at does.settled).
    ⊎_elim
    (λ (whole : runs_at does.settled % 64 ≡ 0). gathered saw does.settled new is_missed (does.due (fuller, whole)))
    (λ (part : runs_at does.settled % 64 ≢ 0). unchanged does.settled new (does.spared (λ is_due. part is_due.1)).0)
    (cases_eq (runs_at does.settled % 64) 0))
    (λ (not_fuller : runs_at does.settled ≤ runs_at old). unchanged does.settled new (does.spared (λ is_due. let less = is_due.0 in omega (arith, less, not_fuller))).0)
    (cases_lt (runs_at old) (runs_at does.settled)) in
    both_more old does.settled new never never never (λ fate job. only_by fate its (once_as job envelope)) settled more

module _ (group : ℕ → GroupId) (seen : Sights) (slot number : ℕ) (job : Job) where
  pub firsts_gain : (call : SupplyCall PlaceState) (before after : Worker) → Calls group seen before call after → Gains (first_at slot number job) (first_handed slot number job) call
  firsts_gain (Take old new answer) before after is =
      let does = taken_more seen.saw_main answer old new is.0 in more_at slot number old new (times_first_handed job old) (times_first_handed job new) (once_handed job answer) does.group does.number (does.first job)
  firsts_gain (TakeBack old new answer) before after is =
      let does = taken_back seen.saw_returns answer old new is.0 in same_at slot number old new (times_first_handed job old) (times_first_handed job new) does.group does.number (omega (arith, does.first job))
  firsts_gain (Settle old new envelope fate) before after is =
      let does = settled_more seen.saw_ledger envelope fate is.0 old new is.1 in
      same_at slot number old new (times_first_handed job old) (times_first_handed job new) does.group does.number (omega (arith, does.first job))
  firsts_gain (GiveBack old new envelope answer) before after is =
      let does = gave_back envelope answer old new is.0 in same_at slot number old new (times_first_handed job old) (times_first_handed job new) does.group does.number (omega (arith, does.first job))
  firsts_gain (Attach request answer) before after is = refl
  firsts_gain (Withdraw connection) before after is = refl
  firsts_gain (Kicked connection answer) before after is = refl
  firsts_gain (Park session now answer) before after is = refl
  firsts_gain (ParkAsIs session) before after is = refl
  firsts_gain (Keep session) before after is = refl
  firsts_gain (Bury session) before after is = refl
  firsts_gain (Sweep now answer) before after is = refl
  firsts_gain (LendPlace its answer) before after is = refl
  firsts_gain (TakePlace place) before after is = refl
  firsts_gain (Bind share answer) before after is = refl
  firsts_gain (Find share answer) before after is = refl
  firsts_gain (Match topic slots) before after is = refl
  firsts_gain (Offer its connection message answer) before after is = refl
  firsts_gain (MayTake place answer) before after is = refl

  pub agains_gain : (call : SupplyCall PlaceState) (before after : Worker) → Calls group seen before call after → Gains (again_at slot number job) (handed_again slot number job) call
  agains_gain (Take old new answer) before after is =
      let does = taken_more seen.saw_main answer old new is.0 in
      same_at slot number old new (times_handed_again job old) (times_handed_again job new) does.group does.number (omega (arith, does.again job))
  agains_gain (TakeBack old new answer) before after is =
      let does = taken_back seen.saw_returns answer old new is.0 in
      more_at slot number old new (times_handed_again job old) (times_handed_again job new) (once_handed job answer) does.group does.number (does.again job)
  agains_gain (Settle old new envelope fate) before after is =
      let does = settled_more seen.saw_ledger envelope fate is.0 old new is.1 in
      same_at slot number old new (times_handed_again job old) (times_handed_again job new) does.group does.number (omega (arith, does.again job))
  agains_gain (GiveBack old new envelope answer) before after is =
      let does = gave_back envelope answer old new is.0 in
      same_at slot number old new (times_handed_again job old) (times_handed_again job new) does.group does.number (omega (arith, does.again job))
  agains_gain (Attach request answer) before after is = refl
  agains_gain (Withdraw connection) before after is = refl
  agains_gain (Kicked connection answer) before after is = refl
  agains_gain (Park session now answer) before after is = refl
  agains_gain (ParkAsIs session) before after is = refl
  agains_gain (Keep session) before after is = refl
  agains_gain (Bury session) before after is = refl
  agains_gain (Sweep now answer) before after is = refl
  agains_gain (LendPlace its answer) before after is = refl
  agains_gain (TakePlace place) before after is = refl
  agains_gain (Bind share answer) before after is = refl
  agains_gain (Find share answer) before after is = refl
  agains_gain (Match topic slots) before after is = refl
  agains_gain (Offer its connection message answer) before after is = refl
  agains_gain (MayTake place answer) before after is = refl

  pub given_gain : (call : SupplyCall PlaceState) (before after : Worker) → Calls group seen before call after → Gains (given_at slot number job) (given_back slot number job) call
  given_gain (Take old new answer) before after is =
      let does = taken_more seen.saw_main answer old new is.0 in
      same_at slot number old new (times_given_back job old) (times_given_back job new) does.group does.number (omega (arith, does.back job))
  given_gain (TakeBack old new answer) before after is =
      let does = taken_back seen.saw_returns answer old new is.0 in
      same_at slot number old new (times_given_back job old) (times_given_back job new) does.group does.number (omega (arith, does.back job))
  given_gain (Settle old new envelope fate) before after is =
      let does = settled_more seen.saw_ledger envelope fate is.0 old new is.1 in
      same_at slot number old new (times_given_back job old) (times_given_back job new) does.group does.number (omega (arith, does.back job))
  given_gain (GiveBack old new envelope answer) before after is =
      let does = gave_back envelope answer old new is.0 in
      more_at slot number old new (times_given_back job old) (times_given_back job new) (once_taken job envelope answer) does.group does.number (does.back job)
  given_gain (Attach request answer) before after is = refl
  given_gain (Withdraw connection) before after is = refl
  given_gain (Kicked connection answer) before after is = refl
  given_gain (Park session now answer) before after is = refl
  given_gain (ParkAsIs session) before after is = refl
  given_gain (Keep session) before after is = refl
  given_gain (Bury session) before after is = refl
  given_gain (Sweep now answer) before after is = refl
  given_gain (LendPlace its answer) before after is = refl
  given_gain (TakePlace place) before after is = refl
  given_gain (Bind share answer) before after is = refl
  given_gain (Find share answer) before after is = refl
  given_gain (Match topic slots) before after is = refl
  given_gain (Offer its connection message answer) before after is = refl
  given_gain (MayTake place answer) before after is = refl

  pub settled_gain : (its : Fate) (call : SupplyCall PlaceState) (before after : Worker) → Calls group seen before call after → Gains (settled_at slot number its job) (settled_there slot number its job) call
  settled_gain its (Take old new answer) before after is =
      let does = taken_more seen.saw_main answer old new is.0 in
      same_at slot number old new (times_settled_at its job old) (times_settled_at its job new) does.group does.number (omega (arith, does.fates its job))
  settled_gain its (TakeBack old new answer) before after is =
      let does = taken_back seen.saw_returns answer old new is.0 in
      same_at slot number old new (times_settled_at its job old) (times_settled_at its job new) does.group does.number (omega (arith, does.fates its job))
  settled_gain its (Settle old new envelope fate) before after is =
      let does = settled_more seen.saw_ledger envelope fate is.0 old new is.1 in
      more_at slot number old new (times_settled_at its job old) (times_settled_at its job new) (only_by its fate (once_as job envelope)) does.group does.number (does.fates its job)
  settled_gain its (GiveBack old new envelope answer) before after is =
      let does = gave_back envelope answer old new is.0 in
      same_at slot number old new (times_settled_at its job old) (times_settled_at its job new) does.group does.number (omega (arith, does.fates its job))
  settled_gain its (Attach request answer) before after is = refl
  settled_gain its (Withdraw connection) before after is = refl
  settled_gain its (Kicked connection answer) before after is = refl
  settled_gain its (Park session now answer) before after is = refl
  settled_gain its (ParkAsIs session) before after is = refl
  settled_gain its (Keep session) before after is = refl
  settled_gain its (Bury session) before after is = refl
  settled_gain its (Sweep now answer) before after is = refl
  settled_gain its (LendPlace slot_is answer) before after is = refl
  settled_gain its (TakePlace place) before after is = refl
  settled_gain its (Bind share answer) before after is = refl
  settled_gain its (Find share answer) before after is = refl
  settled_gain its (Match topic slots) before after is = refl
  settled_gain its (Offer slot_is connection message answer) before after is = refl
  settled_gain its (MayTake place answer) before after is = refl

-- a call leaves each place its slot and its number
module _ (group : ℕ → GroupId) (seen : Sights) (slot number : ℕ) where
  pub once_gain : (call : SupplyCall PlaceState) (before after : Worker) → Calls group seen before call after → Gains (once_at slot number) (λ other. 0) call
  once_gain (Take old new answer) before after is =
      let does = taken_more seen.saw_main answer old new is.0 in same_at slot number old new 1 1 does.group does.number refl
  once_gain (TakeBack old new answer) before after is =
      let does = taken_back seen.saw_returns answer old new is.0 in same_at slot number old new 1 1 does.group does.number refl
  once_gain (Settle old new envelope fate) before after is =
      let does = settled_more seen.saw_ledger envelope fate is.0 old new is.1 in same_at slot number old new 1 1 does.group does.number refl
  once_gain (GiveBack old new envelope answer) before after is =
      let does = gave_back envelope answer old new is.0 in same_at slot number old new 1 1 does.group does.number refl
  once_gain (Attach request answer) before after is = refl
  once_gain (Withdraw connection) before after is = refl
  once_gain (Kicked connection answer) before after is = refl
  once_gain (Park session now answer) before after is = refl
  once_gain (ParkAsIs session) before after is = refl
  once_gain (Keep session) before after is = refl
  once_gain (Bury session) before after is = refl
  once_gain (Sweep now answer) before after is = refl
  once_gain (LendPlace its answer) before after is = refl
  once_gain (TakePlace place) before after is = refl
  once_gain (Bind share answer) before after is = refl
  once_gain (Find share answer) before after is = refl
  once_gain (Match topic slots) before after is = refl
  once_gain (Offer its connection message answer) before after is = refl
  once_gain (MayTake place answer) before after is = refl
