-- What a group promises of its messages (OASIS MQTT 5.0, 4.6 and 4.8.2), read off its ports, its places and the messages that are out at its end, and its final report.
use Rattle.std.specs.Prelude.{◌≡◌, ◌≢◌, ℕ, ◌+◌, ◌≤◌, List, ◌∷◌, ◌++◌, map, sum_by, All, AllPairs, Contains, slice_get, Some}
use Rattle.dispatch_core.specs.declared.event.Job.{Job}
use Rattle.dispatch_core.specs.GroupState.{GroupState}
use Rattle.dispatch_core.specs.JobRuns.{count_of}
use Rattle.dispatch_core.specs.Lawful.{RisesByPort, IsLawful}
use Rattle.group_jobs.specs.declared.fate.Fate.{Fate}
use Rattle.group_jobs.specs.declared.fate.Fate.TheVariants.{Refused, Discarded}
use Rattle.group_jobs.specs.declared.report.Report.{Report}
use Rattle.group_jobs.specs.Endings.{EndsIn}
use Rattle.group_jobs.specs.Reports.{fates_of, times_accepted}
use Rattle.group_jobs.specs.Settled.{settled_as}
use Rattle.group_jobs.specs.Stamps.{Held, job_of}
use Rattle.group_queue.specs.declared.posted.Posted.{Posted}
use Rattle.group_queue.specs.Ports.{PortState}
use Rattle.group_queue.specs.Places.{PlaceState, jobs_in, account_of}
use Rattle.group_queue.specs.Ends.{IsSent}
use Rattle.final_report.specs.Messages.{times_accepted_by, times_first_handed, times_handed_again, times_handed, times_given_back, times_settled_at, times_out_at}

-- a message was accepted through one of these ports
abbrev pub IsAccepted : List PortState → Posted → Type 0
IsAccepted ports posted = (port : PortState) × Contains ports port × Contains port.sent posted

-- **Each message accepted into the group was first handed to at most one member**, once.
pub record IsFirstHandedOnce (ports : List PortState) (places : List PlaceState) (held : List Held) (report : Report) : Type 0 where
  pub at_most_once : (posted : Posted) → IsAccepted ports posted → sum_by (times_first_handed posted.job) places ≤ 1
  -- one that was first handed to nobody is queued, and none is queued that was handed to somebody
  pub or_queued : (posted : Posted) → IsAccepted ports posted → sum_by (times_first_handed posted.job) places + count_of posted.job report.queued.items ≡ 1
  -- what was not accepted was handed to nobody: each first hand-out is the very message that was accepted as the one of its number
  pub as_accepted : All (λ place. All (IsSent ports) place.firsts) places

-- a port sent this very message, as the one of its number
abbrev pub IsFrom : PortState → Posted → Type 0
IsFrom port posted = (port.number ≡ posted.job.port) × (slice_get port.sent posted.job.number ≡ Some posted)

-- one message stands in a list before another
abbrev pub StandsBefore : List Posted → Posted → Posted → Type 0
StandsBefore list one other = (front between behind : List Posted) × (list ≡ front ++ one ∷ (between ++ other ∷ behind))

-- what a publisher sent of these two it sent in this order
abbrev pub AreInItsOrder : List PortState → Posted → Posted → Type 0
AreInItsOrder ports one other = (port : PortState) → Contains ports port → IsFrom port one → IsFrom port other → StandsBefore port.sent one other

-- **Each member's first hand-outs from a publisher keep that publisher's order.**
pub record KeepsOrder (ports : List PortState) (places : List PlaceState) (held : List Held) (report : Report) : Type 0 where
  -- of two that one publisher sent, the one that was handed out before the other was sent before it
  pub in_order : All (λ place. AllPairs (AreInItsOrder ports) place.firsts) places
  -- each is from a publisher, whose number it has; and of that number there is one order
  pub numbered : All (λ place. All (IsSent ports) place.firsts) places
  pub rises : All (λ place. RisesByPort (jobs_in place.firsts)) places

-- a message that was settled at one member by this fate went to nobody else
pub record WentToNobodyElse (how : Fate) (places : List PlaceState) (report : Report) (job : Job) (settler : PlaceState) : Type 0 where
  -- it was settled so once; and each other time that this member was handed it, it gave it back
  pub once : times_settled_at how job settler ≡ 1
  pub this_member : times_handed job settler ≡ times_given_back job settler + 1
  -- each other member neither settled it nor has it, and gave it back as often as it was handed it
  pub others : (other : PlaceState) → Contains places other → other.number ≢ settler.number
      → ((fate : Fate) → times_settled_at fate job other ≡ 0) × (times_out_at job other ≡ 0) × (times_handed job other ≡ times_given_back job other)
  -- it waits for nobody: whatever was given back was handed out again, up to the hand-out that was settled, and it is the report's to have that fate, once, and nothing else
  pub none_waits : (count_of job report.queued.items ≡ 0) × (count_of job report.returned.items ≡ 0) × (count_of job report.held.items ≡ 0)
  pub again : sum_by (times_handed_again job) places ≡ sum_by (times_given_back job) places
  pub fate : (count_of job (settled_as how report.settled) ≡ 1) × ((other : Fate) → other ≢ how → count_of job (settled_as other report.settled) ≡ 0)

-- so it is of each message that was settled by this fate
abbrev pub EndsAtItsMember : Fate → List PortState → List PlaceState → List Held → Report → Type 0
EndsAtItsMember how ports places held report =
    (settler : PlaceState) (job : Job) → Contains places settler → 1 ≤ times_settled_at how job settler → WentToNobodyElse how places report job settler

-- **A refused message goes to nobody else.**
abbrev pub RefusesForGood : List PortState → List PlaceState → List Held → Report → Type 0
RefusesForGood = EndsAtItsMember Refused

-- **Nor does a discarded one.**
abbrev pub DiscardsForGood : List PortState → List PlaceState → List Held → Report → Type 0
DiscardsForGood = EndsAtItsMember Discarded

-- **The final report gives each accepted message exactly one fate**, and nothing else any.
pub record GivesOneFate (ports : List PortState) (places : List PlaceState) (held : List Held) (report : Report) : Type 0 where
  pub one : (posted : Posted) → IsAccepted ports posted → fates_of report posted.job ≡ 1
  pub no_other : (job : Job) → times_accepted_by ports job ≡ 0 → fates_of report job ≡ 0
  -- no two accepted messages have one port and number
  pub apart : (job : Job) → times_accepted_by ports job ≤ 1

-- **The report is what happened**: it counts what was accepted; a message is acknowledged, refused or discarded there as often as it was settled so at the members, held as often as it is among those
-- that are out, and returned as often as it was given back and not handed out again.
pub record TellsWhatHappened (ports : List PortState) (places : List PlaceState) (held : List Held) (report : Report) : Type 0 where
  pub accepted : (job : Job) → times_accepted report.accepted.items job ≡ times_accepted_by ports job
  pub settled : (fate : Fate) (job : Job) → count_of job (settled_as fate report.settled) ≡ sum_by (times_settled_at fate job) places
  pub out : report.held.items ≡ map (λ envelope. job_of envelope.stamp) held
  pub returned : (job : Job) → sum_by (times_handed_again job) places + count_of job report.returned.items ≡ sum_by (times_given_back job) places
  -- and what was handed out again is what was given back, message by message, whatever each counts for
  pub again : (worth : Posted → ℕ) → sum_by (λ place. sum_by worth place.agains) places ≤ sum_by (λ place. sum_by worth place.given) places

-- **The end is lawful**: there is a state of the group's state machine, lawful as each state is that a run leads to, in which each message is where the report says, and each member's
-- first hand-outs are its own.
abbrev pub EndsLawfully : List PortState → List PlaceState → List Held → Report → Type 0
EndsLawfully ports places held report = (state : GroupState) × EndsIn (map account_of places) report state × IsLawful state
