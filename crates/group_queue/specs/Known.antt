-- What who ends a group knows, once it has taken in the passes of all ports and places. No public clause cites this module.
use Rattle.std.specs.Prelude.{◌≡◌, ℕ, ◌+◌, ◌≤◌, ◌<◌, List, [], ◌++◌, map, length, sum_by, All, Contains, vec_capacity, Result, Ok, Err}
use Rattle.std.specs.List.Sorted.{IsPermutation}
use Rattle.limits.specs.Limits.{most_members}
use Rattle.crossbeam_queue.specs.Passes.{view}
use Rattle.group_jobs.specs.Dockets.{Kept}
use Rattle.group_jobs.specs.declared.fate.Fate.{Fate}
use Rattle.group_jobs.specs.Stamps.{Held, job_of}
use Rattle.group_jobs.specs.Settled.{fates, settled_as, runs_of, least_spare}
use Rattle.dispatch_core.specs.declared.event.Job.{Job}
use Rattle.group_jobs.specs.declared.ledger.Ledger.{Ledger}
use Rattle.group_jobs.specs.declared.stamp.Stamp.{Stamp}
use Rattle.shared_ledger.specs.Giving.{times_in, jobs_in}
use Rattle.shared_ledger.specs.Givers.{HolderState}
use Rattle.group_queue.specs.declared.reserving.Lists.{Lists}
use Rattle.group_queue.specs.declared.error.FinishError.{FinishError}
use Rattle.group_queue.specs.declared.error.FinishError.TheVariants.{Missing, Stranger, Memory}
use Rattle.group_queue.specs.declared.error.Lack.TheVariants.{Port as MissingPort, Place as MissingPlace, Envelope}
use Rattle.group_queue.specs.Ends.{AreCounts, times_held, times_out}
use Rattle.group_queue.specs.declared.posted.Posted.{Posted}
use Rattle.group_queue.specs.declared.view.Name.TheVariants.{Port, Place}
use Rattle.group_queue.specs.declared.view.Entry.{Entry}
use Rattle.group_queue.specs.declared.view.View.{View}
use Rattle.group_queue.specs.declared.view.Bag.{Bag}
use Rattle.group_queue.specs.Views.{entry, ending}
use Rattle.group_queue.specs.declared.place.Passes.{Passes}
use Rattle.group_queue.specs.Returns.{bag_of}
use Rattle.group_queue.specs.Ports.{GroupId, PortState, Shape}
use Rattle.group_queue.specs.Places.{PlaceState, IsBalanced}
use Rattle.group_queue.specs.Openings.{AreOf}

abbrev pub port_entry : PortState → Entry
port_entry port = entry (Port port.number) port.sent

abbrev pub place_entry : PlaceState → Entry
place_entry place = entry (Place place.number) place.firsts

-- the view of who popped this, and knows of these places and ports
abbrev pub knowing : Shape → List Posted → List PlaceState → List PortState → View
knowing shape left places ports = ending shape.ports shape.places left (map place_entry places ++ map port_entry ports)

-- the parts of these places were taken in, with what they gave back and were handed again
pub record TakesInParts (old : Bag) (places : List PlaceState) (new : Bag) : Type 0 where
  pub parts_are : new.parts ≡ old.parts + length places
  pub popped : (worth : Posted → ℕ) → sum_by worth new.popped ≡ sum_by worth old.popped + sum_by (λ (p : PlaceState). sum_by worth p.agains) places
  pub pushed : (worth : Posted → ℕ) → sum_by worth new.pushed ≡ sum_by worth old.pushed + sum_by (λ (p : PlaceState). sum_by worth p.given) places

-- the givers of these places were taken in, with what they gave
pub record TakesInGivers (old : HolderState) (places : List PlaceState) (new : HolderState) : Type 0 where
  pub of : new.ledger ≡ old.ledger
  pub parts_are : new.parts ≡ old.parts + sum_by (λ (p : PlaceState). p.giver.parts) places
  pub gave_are : (fate : Fate) (job : Job) → times_in new.gave fate job ≡ times_in old.gave fate job + sum_by (λ (p : PlaceState). times_in p.giver.gave fate job) places
  pub settled_is : new.settled ≡ old.settled

-- who has the group's ledger in hands has all parts of it, and with them what all places gave
pub record HasGathered (group : GroupId) (places : List PlaceState) (old new : HolderState) : Type 0 where
  pub of : new.ledger ≡ group.ledger
  pub all : 64 ≤ new.parts
  pub gave_all : (fate : Fate) (job : Job) → times_in new.gave fate job ≡ sum_by (λ (p : PlaceState). times_in p.giver.gave fate job) places
  pub settled_is : new.settled ≡ old.settled

-- how many jobs a place settled and did not give to the group's ledger
abbrev pub ended : PlaceState → ℕ
ended place = sum_by (λ fate. length (settled_as fate place.docket.settled)) fates

-- there is room for all that was accepted, but what was settled, and gathered in this ledger or not, and what is out
abbrev pub IsRoomFor : List PortState → List PlaceState → Ledger → ℕ → Type 0
IsRoomFor ports places gathered room =
    sum_by (λ (p : PortState). length p.sent) ports ≤ room + sum_by ended places + sum_by (λ (p : PlaceState). length p.docket.out) places + jobs_in gathered

-- what is known of a report, and room for the rest: for what is settled, in the group's ledger
pub record AreReady (count : ℕ) (ports : List PortState) (places : List PlaceState) (held : List Held) (lists : Lists) (holder : HolderState) : Type 0 where
  pub counts : AreCounts count ports lists.accepted.items
  pub envelopes : lists.held.items ≡ map (λ envelope. job_of envelope.stamp) held
  pub no_docket : lists.dockets.items ≡ []
  pub room_for_dockets : length places ≤ vec_capacity lists.dockets
  pub room_for_settled : (fate : Fate) → sum_by (λ (p : PlaceState). length (runs_of fate p.docket.settled)) places ≤ least_spare holder.settled
  pub none_queued : lists.queued.items ≡ []
  pub room_for_queued : IsRoomFor ports places holder.settled (vec_capacity lists.queued)
  pub none_returned : lists.returned.items ≡ []
  pub room_for_returned : IsRoomFor ports places holder.settled (vec_capacity lists.returned)

-- in how many runs the jobs are that a place settled and did not give to the group's ledger
abbrev pub runs_kept : PlaceState → ℕ
runs_kept place = sum_by (λ fate. length (runs_of fate place.docket.settled)) fates

-- the lists have room for no more than what there is: a number for each port, the envelopes, a docket for each place, and what the ports sent
pub record IsBounded (count : ℕ) (ports : List PortState) (places : List PlaceState) (held : List Held) (lists : Lists) : Type 0 where
  pub accepted : vec_capacity lists.accepted ≡ count
  pub envelopes : vec_capacity lists.held ≡ length held
  pub dockets : vec_capacity lists.dockets ≡ length places
  pub queued : vec_capacity lists.queued ≤ sum_by (λ (p : PortState). length p.sent) ports
  pub returned : vec_capacity lists.returned ≤ sum_by (λ (p : PortState). length p.sent) ports

-- the stamp is of this group, and its job is one of these
abbrev pub IsAmong : GroupId → List Job → Stamp → Type 0
IsAmong group jobs stamp = (stamp.group ≡ group.slot) × Contains jobs (job_of stamp)

-- what a look at the envelopes told: exactly those are there whose messages are out; or which one is lacking, or a stranger
abbrev pub IsCompared : GroupId → List PlaceState → List Held → Result (Unit {0}) FinishError → Type 0
IsCompared group places held (Ok done) = (stamp : Stamp) → times_held stamp held ≡ times_out group stamp places
IsCompared group places held (Err (Missing (MissingPort number))) = ⊥
IsCompared group places held (Err (Missing (MissingPlace number))) = ⊥
IsCompared group places held (Err (Missing (Envelope stamp))) = times_held stamp held < times_out group stamp places
IsCompared group places held (Err (Stranger stamp)) =
    ((other : Stamp) → times_out group other places ≤ times_held other held) × (times_out group stamp places < times_held stamp held)
IsCompared group places held (Err Memory) = ⊥

-- all passes were taken in, in some order of the places, and the dockets kept
pub record IsJoined (group : GroupId) (ports : List PortState) (places : List PlaceState) (passes : Passes) (dockets : List Kept) : Type 0 where
  pub order : List PlaceState
  pub same : IsPermutation places order
  pub of : AreOf group passes
  pub names : view passes.main ≡ knowing group.shape [] order ports
  pub parts : 64 ≤ (bag_of passes.returns).parts
  pub popped : (worth : Posted → ℕ) → sum_by worth (bag_of passes.returns).popped ≡ sum_by (λ (p : PlaceState). sum_by worth p.agains) order
  pub pushed : (worth : Posted → ℕ) → sum_by worth (bag_of passes.returns).pushed ≡ sum_by (λ (p : PlaceState). sum_by worth p.given) order
  pub kept : dockets ≡ map (λ (p : PlaceState). p.docket) order
  pub balanced : All IsBalanced order
  pub few : group.shape.places ≤ most_members
