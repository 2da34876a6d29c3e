-- What each place of a broker's groups did, by the calls of its workers' runs.
use Rattle.std.specs.Prelude.{◌≡◌, ℕ, ◌&&◌, nat_eq, if◌then◌else◌, List, [], ◌∷◌, sum_by, Option, Some, None, Result, Ok, Err}
use Rattle.dispatch_core.specs.declared.event.Job.{Job}
use Rattle.dispatch_core.specs.JobRuns.{count_of}
use Rattle.group_jobs.specs.declared.fate.Fate.{Fate}
use Rattle.group_jobs.specs.declared.fate.Fate.TheVariants.{Acknowledged, Refused, Discarded}
use Rattle.group_jobs.specs.Stamps.{Held, job_of}
use Rattle.group_queue.specs.Places.{PlaceState}
use Rattle.conn_supply.specs.SupplyCalls.{SupplyCall}
use Rattle.conn_supply.specs.SupplyCalls.SupplyCall.{Take, TakeBack, Settle, GiveBack}
use Rattle.final_report.specs.Messages.{times_first_handed, times_handed_again, times_given_back, times_settled_at}

-- so often where it is the place of this slot and number, and else not at all
abbrev pub only_at : (slot number : ℕ) → PlaceState → ℕ → ℕ
only_at slot number place times = if nat_eq place.group slot && nat_eq place.number number then times else 0

-- how often the message with this job is handed out by this answer, and taken by this one: once or not at all
abbrev pub once_as : Job → Held → ℕ
once_as job envelope = count_of job (job_of envelope.stamp ∷ [])

abbrev pub once_handed : {E : Type 0} → Job → Result (Option Held) E → ℕ
once_handed job (Ok (Some envelope)) = once_as job envelope
once_handed job (Ok None) = 0
once_handed job (Err error) = 0

abbrev pub once_taken : {E : Type 0} → Job → Held → Result (Unit {0}) E → ℕ
once_taken job envelope (Ok done) = once_as job envelope
once_taken job envelope (Err error) = 0

-- so often where the one fate is the other
abbrev pub only_by : Fate → Fate → ℕ → ℕ
only_by Acknowledged Acknowledged times = times
only_by Refused Refused times = times
only_by Discarded Discarded times = times
only_by fate other times = 0

-- how often a call hands the message with this job to that place for the first time, and again; how often the place gives it back by that call, and settles it by this fate
abbrev pub first_handed : (slot number : ℕ) → Job → SupplyCall PlaceState → ℕ
first_handed slot number job (Take old new answer) = only_at slot number old (once_handed job answer)
first_handed slot number job _ = 0

abbrev pub handed_again : (slot number : ℕ) → Job → SupplyCall PlaceState → ℕ
handed_again slot number job (TakeBack old new answer) = only_at slot number old (once_handed job answer)
handed_again slot number job _ = 0

abbrev pub given_back : (slot number : ℕ) → Job → SupplyCall PlaceState → ℕ
given_back slot number job (GiveBack old new envelope answer) = only_at slot number old (once_taken job envelope answer)
given_back slot number job _ = 0

abbrev pub settled_there : (slot number : ℕ) → Fate → Job → SupplyCall PlaceState → ℕ
settled_there slot number fate job (Settle old new envelope its) = only_at slot number old (only_by fate its (once_as job envelope))
settled_there slot number fate job _ = 0

-- how often these calls do, of all workers together
abbrev pub in_all : (SupplyCall PlaceState → ℕ) → List (List (SupplyCall PlaceState)) → ℕ
in_all times calls = sum_by (λ its. sum_by times its) calls

-- **A place did what these calls did there**, and nothing else: it was handed each message for the first time, and again, gave it back, and settled it by each fate, as often as they did
pub record CameOfCalls (calls : List (List (SupplyCall PlaceState))) (place : PlaceState) : Type 0 where
  pub first : (job : Job) → times_first_handed job place ≡ in_all (first_handed place.group place.number job) calls
  pub again : (job : Job) → times_handed_again job place ≡ in_all (handed_again place.group place.number job) calls
  pub returned : (job : Job) → times_given_back job place ≡ in_all (given_back place.group place.number job) calls
  pub settled : (fate : Fate) (job : Job) → times_settled_at fate job place ≡ in_all (settled_there place.group place.number fate job) calls
