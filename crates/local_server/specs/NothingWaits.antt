-- What a step leaves to its client: nothing that could go (sections 4.4, 4.6 and 4.9).
use Rattle.std.specs.Prelude.{◌≡◌, ◌⊎◌, ℕ, List, [], ◌∷◌, ◌++◌, Some, slice_get, ⊤}
use Rattle.dispatch_core.specs.declared.event.Event.{Event}
use Rattle.dispatch_core.specs.declared.event.Event.TheVariants.{First, Discard, Again}
use Rattle.group_jobs.specs.Stamps.{Held, job_of}
use Rattle.local_group.specs.Groups.{Group}
use Rattle.member_window.specs.Contents.{Contents, HasQuota, HasRoom}
use Rattle.session_desk.specs.declared.session.Membership.{Membership}
use Rattle.session_desk.specs.declared.session.Membership.TheVariants.{NotMember, Member, Leaving}
use Rattle.conn_rules.specs.declared.hand_outs.HandOutTerms.{HandOutTerms}
use Rattle.conn_engine.specs.declared.phase.ConnPhase.{ConnPhase}
use Rattle.conn_engine.specs.declared.phase.ConnPhase.TheVariants.{Unconnected, Waiting, Connected, Ended}
use Rattle.conn_engine.specs.Step.{hand_out_terms}
use Rattle.conn_laws.specs.Behind.{DiscardsMost}
use Rattle.local_broker.specs.Places.{GroupPlace}
use Rattle.local_broker.specs.Broker.{Broker}
use Rattle.local_broker.specs.Calls.{Calls}
use Rattle.local_server.specs.TakenSteps.{TakenStep}

-- the group of this place has no message for a member: none that was given back, and none that is queued
pub record HasNone (b : Broker) (place : GroupPlace) : Type 0 where
  pub group : Group
  pub there : slice_get b.groups place.slot ≡ Some group
  pub returned : group.returned ≡ []
  pub queue : group.queue ≡ []

-- these events are, one after the other, that a member was handed each of these messages, for the first time or again, and discarded it at once
abbrev pub AreDiscarded : ℕ → List Held → List Event → Type 0
AreDiscarded member [] events = events ≡ []
AreDiscarded member (envelope ∷ envelopes) events =
    let job = job_of envelope.stamp in
    (later : List Event) × AreDiscarded member envelopes later
    × ((events ≡ First member job ∷ Discard member job ∷ later) ⊎ (events ≡ Again member job ∷ Discard member job ∷ later))

-- the last that happened in the group of this place is that it was handed 131,072 messages and discarded each, which its client is not to be sent under these terms (profile)
pub record LastWereDiscarded (terms : HandOutTerms) (b : Broker) (place : GroupPlace) : Type 0 where
  pub most : DiscardsMost Calls terms place b
  pub group : Group
  pub there : slice_get b.groups place.slot ≡ Some group
  pub before : List Event
  pub last : List Event
  pub events : group.events ≡ before ++ last
  pub discarded : AreDiscarded place.number most.discarded last

-- a member whose window has room for another message waits for none of its group; or the last 131,072 that its place was handed were discarded
abbrev pub IsServedAs : HandOutTerms → Broker → Membership GroupPlace → Contents Held → Type 0
IsServedAs terms b NotMember window = ⊤
IsServedAs terms b (Member place) window = HasRoom window → HasNone b place ⊎ LastWereDiscarded terms b place
IsServedAs terms b (Leaving place) window = ⊤

-- what a client that has its session is left with: no message of an earlier connection waits to be sent again while the quota has room, and none that it could be handed
-- waits in its group
abbrev pub HasNothingLeft : TakenStep → ConnPhase GroupPlace → Type 0
HasNothingLeft step (Unconnected opened) = ⊤
HasNothingLeft step (Waiting request ticks) = ⊤
HasNothingLeft step (Connected connected) =
    let window = connected.session.window in
    (HasQuota window → window.waiting ≡ []) × IsServedAs (hand_out_terms connected step.at) step.broker_after connected.session.membership window
HasNothingLeft step Ended = ⊤

-- so it is after a step, for the client whose step it is; what another client's step queues waits for this one's next
abbrev pub LeavesNothing : TakenStep → Type 0
LeavesNothing step = HasNothingLeft step step.phase_after
