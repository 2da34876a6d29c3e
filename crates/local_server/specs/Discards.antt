-- What is discarded had expired when it was handed out, or is too long for its client; and what goes out for the first time is neither (sections 3.1.2.11.4 and 3.3.2.3.3).
use Rattle.std.specs.Prelude.{◌≡◌, ◌⊎◌, ℕ, nat_eq, Bool, true, false, List, [], ◌∷◌, ◌++◌, filter, Option, Some, None, slice_get, ⊤}
use Rattle.std.specs.List.{AllByRecursion}
use Rattle.mqtt_packet.specs.declared.packet.Packet.TheVariants as packets
use Rattle.mqtt_packet.specs.declared.packet.Publish.{Publish}
use Rattle.dispatch_core.specs.declared.event.Event.{Event}
use Rattle.dispatch_core.specs.declared.event.Event.TheVariants.{Accept, First, Ack, Refuse, Discard, Back, Again, Close}
use Rattle.group_jobs.specs.declared.fate.Fate.TheVariants.{Discarded}
use Rattle.group_jobs.specs.declared.message.Message.{Message}
use Rattle.group_jobs.specs.Stamps.{Held}
use Rattle.local_group.specs.declared.waiting.Waiting.{Waiting}
use Rattle.local_group.specs.Groups.{Group, Takes, TakesBack, Settles}
use Rattle.conn_rules.specs.Publishing.{message_of}
use Rattle.conn_engine.specs.declared.input.Input.TheVariants as inputs
use Rattle.conn_laws.specs.Calls.{Outcome, sent_of, AreSentIfFit, contents_of, fresh_contents}
use Rattle.local_broker.specs.Places.{GroupPlace}
use Rattle.local_server.specs.TakenSteps.{TakenStep}

-- a group hands a message to a place: of those that wait in it the one that was given back first, as an Again tells, or the oldest of its queue, as a First does
abbrev pub HandsOne : Group → GroupPlace × Held → Group → Type 0
HandsOne old hand_out new = TakesBack old hand_out.0.number (Some hand_out.1) new ⊎ Takes old hand_out.0.number (Some hand_out.1) new

-- what is not sent is discarded: the next event is a Discard of the same job by the same place
abbrev pub IsDiscardedUnlessSent : Bool → Group → Held → Group → Type 0
IsDiscardedUnlessSent true old envelope new = new ≡ old
IsDiscardedUnlessSent false old envelope new = Settles old envelope Discarded new

-- a group hands these messages out, one after the other, and nothing else happens in it
abbrev pub HandsEach : Group → List (Outcome GroupPlace) → Group → Type 0
HandsEach old [] new = new ≡ old
HandsEach old (outcome ∷ others) new =
    (handed after : Group) × HandsOne old outcome.hand_out handed × IsDiscardedUnlessSent outcome.sent handed outcome.hand_out.1 after × HandsEach after others new

-- an event that hands nothing out, and discards nothing
abbrev pub IsNeither : Event → Type 0
IsNeither (Accept port) = ⊤
IsNeither (First member job) = ⊥
IsNeither (Ack member job) = ⊤
IsNeither (Refuse member job) = ⊤
IsNeither (Discard member job) = ⊥
IsNeither (Back member job) = ⊤
IsNeither (Again member job) = ⊥
IsNeither Close = ⊤

-- of these hand-outs those to places of the group of this slot
abbrev pub to_slot : ℕ → List (Outcome GroupPlace) → List (Outcome GroupPlace)
to_slot slot outcomes = filter (λ outcome. nat_eq outcome.hand_out.0.slot slot) outcomes

-- a message is that of the PUBLISH that came in a step
abbrev pub IsMessageOf : TakenStep → Message → Type 0
IsMessageOf step message = (publish : Publish) × (step.input ≡ inputs.Packet (packets.Publish publish)) × (message ≡ message_of step.at publish)

-- The group of a slot handed out these messages in a step, and no other, and discarded those of them that are not sent, and no other: what else happened in it came before, and left
-- what waited in it where it was: behind that the message that came may wait, which it accepted, and what was given back.
pub record HandsOutAll (step : TakenStep) (slot : ℕ) (outcomes : List (Outcome GroupPlace)) (group : Group) : Type 0 where
  pub before : Group
  pub was : slice_get step.broker_before.groups slot ≡ Some before
  pub ready : Group
  pub earlier : List Event
  pub events : ready.events ≡ before.events ++ earlier
  pub neither : AllByRecursion IsNeither earlier
  pub accepted : List Waiting
  pub queue : ready.queue ≡ before.queue ++ accepted
  pub came : AllByRecursion (λ waiting. IsMessageOf step waiting.message) accepted
  pub given_back : List Waiting
  pub returned : ready.returned ≡ before.returned ++ given_back
  pub hands : HandsEach ready outcomes group

-- so it is with the group of a slot; where there is none, nothing is handed out
abbrev pub Tells : TakenStep → ℕ → List (Outcome GroupPlace) → Option Group → Type 0
Tells step slot outcomes None = outcomes ≡ []
Tells step slot outcomes (Some group) = HandsOutAll step slot outcomes group

-- What a step hands out, and what becomes of it.
pub record DiscardsExpiredOrTooLong (step : TakenStep) : Type 0 where
  -- the messages that the groups hand out in it, in their order, each to a place, and whether it is sent, or discarded
  pub outcomes : List (Outcome GroupPlace)
  -- one is discarded exactly where it has expired at the moment of the step, or its PUBLISH is longer than the client takes that the connection has then
  pub fit : AreSentIfFit step.phase_after step.at outcomes
  -- what is sent of them is what goes out with DUP 0, each message in a PUBLISH of its own, in their order
  pub sent : fresh_contents step.packets ≡ contents_of (sent_of outcomes)
  -- and the events of each group tell these hand-outs, and these discards, each directly after its hand-out, and no other
  pub told : (slot : ℕ) → Tells step slot (to_slot slot outcomes) (slice_get step.broker_after.groups slot)
