-- The headline on one thread: what holds of a server, whatever events happened to it, in terms of the events of its groups.
use Rattle.std.specs.Prelude.{◌≡◌, ◌≢◌, ℕ, List, ◌∷◌, ◌++◌, Some, All, Contains, slice_get}
use Rattle.dispatch_core.specs.declared.event.Event.{Event}
use Rattle.dispatch_core.specs.declared.event.Event.TheVariants as event
use Rattle.dispatch_core.specs.declared.event.Job.{Job}
use Rattle.dispatch_core.specs.Lawful.{RisesByPort, StandsOnce}
use Rattle.dispatch_core.specs.Mentions.{HandsOutJob}
use Rattle.dispatch_core.specs.Step.{NeedsOpen}
use Rattle.dispatch_core.specs.Told.{firsts_in}
use Rattle.group_jobs.specs.declared.report.Report.{Report}
use Rattle.group_jobs.specs.Reports.{fates_of, times_accepted}
use Rattle.local_group.specs.Groups.{Group}
use Rattle.local_group.specs.Reporting.{Reports}
use Rattle.local_server.specs.Servers.{ServerState}
use Rattle.local_server.specs.Quotas.{AllWithinQuota}

-- a job is first handed out once, and to one member alone
pub record IsOneFirst (events : List Event) (member : ℕ) (job : Job) : Type 0 where
  pub once : StandsOnce (firsts_in events member) job
  pub no_other : (other : ℕ) → other ≢ member → ¬ Contains (firsts_in events other) job

-- what holds of a group. A job is a message that was accepted: the port is its publisher's connection, as `publisher_law` has it, the number its
-- place there
pub record KeepsPromises (group : Group) : Type 0 where
  -- each accepted message is first handed to at most one member, once
  pub one_member : (member : ℕ) (job : Job) → Contains (firsts_in group.events member) job → IsOneFirst group.events member job
  -- each member's first hand-outs from a publisher keep that publisher's order (4.6)
  pub in_order : (member : ℕ) → RisesByPort (firsts_in group.events member)
  -- a refused message goes to nobody else (4.8.2)
  pub refused : (before behind : List Event) (member : ℕ) (job : Job) → group.events ≡ before ++ event.Refuse member job ∷ behind
      → All (λ later. ¬ HandsOutJob job later) behind
  -- nor does a discarded one
  pub discarded : (before behind : List Event) (member : ℕ) (job : Job) → group.events ≡ before ++ event.Discard member job ∷ behind
      → All (λ later. ¬ HandsOutJob job later) behind
  -- nothing is accepted and nothing handed out after close
  pub closed : (before behind : List Event) → group.events ≡ before ++ event.Close ∷ behind → All (λ later. ¬ NeedsOpen later) behind
  -- a report gives each accepted message exactly one fate, and no other message any
  pub one_fate : (report : Report) → Reports group report → (job : Job) → fates_of report job ≡ times_accepted report.accepted.items job

pub record HoldsTheHeadline (server : ServerState) : Type 0 where
  pub groups : (slot : ℕ) (group : Group) → slice_get server.broker.groups slot ≡ Some group → KeepsPromises group
  -- no connection has more unacknowledged PUBLISH packets than its Receive Maximum (4.9)
  pub quota : AllWithinQuota server.clients
