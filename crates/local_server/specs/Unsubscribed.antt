-- Who unsubscribes from its share is handed nothing from then on, until it subscribes again (sections 3.8 to 3.11; profile).
use Rattle.std.specs.Prelude.{◌≡◌, ◌⊎◌, ℕ, List, [], ◌∷◌, ◌++◌, Option, Some, None, Contains, slice_get}
use Rattle.std.specs.List.{AllByRecursion}
use Rattle.mqtt_packet.specs.declared.packet.Packet.{Packet}
use Rattle.mqtt_packet.specs.declared.packet.Packet.TheVariants as packets
use Rattle.mqtt_packet.specs.declared.packet.Subscribe.{Subscribe}
use Rattle.mqtt_packet.specs.declared.packet.Unsubscribe.{Unsubscribe}
use Rattle.dispatch_core.specs.declared.event.Job.{Job}
use Rattle.local_group.specs.Groups.{Group}
use Rattle.conn_rules.specs.Packets.{suback, unsuback}
use Rattle.conn_supply.specs.declared.reply.Then.TheVariants.{Go}
use Rattle.conn_engine.specs.declared.input.Input.TheVariants as inputs
use Rattle.conn_engine.specs.declared.phase.ConnPhase.{ConnPhase}
use Rattle.conn_laws.specs.Calls.{fresh_contents}
use Rattle.conn_laws.specs.Transcripts.{connected_of}
use Rattle.local_broker.specs.Places.{GroupPlace}
use Rattle.local_broker.specs.Broker.{Broker}
use Rattle.local_broker.specs.HandOuts.{handed_in_all}
use Rattle.local_server.specs.Transcripts.{session_of}
use Rattle.local_server.specs.TakenSteps.{TakenStep}

-- the hand-outs of a group, as its events tell, first and later ones; where there is no group, none
abbrev pub hand_outs_of : Option Group → List (ℕ × Job)
hand_outs_of None = []
hand_outs_of (Some group) = handed_in_all group.events

abbrev pub hand_outs_in : ℕ → Broker → List (ℕ × Job)
hand_outs_in slot b = hand_outs_of (slice_get b.groups slot)

-- in a step nothing is handed out: no group hands out a message, for the first time or again, and no message is sent for the first time, with DUP 0
pub record HandsOutNothing (step : TakenStep) : Type 0 where
  pub handed : (slot : ℕ) → hand_outs_in slot step.broker_after ≡ hand_outs_in slot step.broker_before
  pub sent : fresh_contents step.packets ≡ []

-- 3.10.3, 3.11.3: an UNSUBSCRIBE came in a step, and its UNSUBACK has Success, 00, which it has only for the share of whose group the session was a member; and the
-- connection goes on
pub record Leaves (step : TakenStep) : Type 0 where
  pub unsubscribe : Unsubscribe
  pub came : step.input ≡ inputs.Packet (packets.Unsubscribe unsubscribe)
  pub codes : List ℕ
  pub later : List Packet
  pub sent : step.packets ≡ unsuback unsubscribe.packet_identifier codes ∷ later
  pub success : Contains codes 0x00
  pub goes_on : step.next ≡ Go

-- 3.8.3, 3.9.3: a SUBSCRIBE came in a step, and its SUBACK has Granted QoS 1, 01
pub record Joins (step : TakenStep) : Type 0 where
  pub subscribe : Subscribe
  pub came : step.input ≡ inputs.Packet (packets.Subscribe subscribe)
  pub codes : List ℕ
  pub later : List Packet
  pub sent : step.packets ≡ suback subscribe.packet_identifier codes ∷ later
  pub granted : Contains codes 0x01

-- after a step the connection goes on, and it did not join a group in it
abbrev pub StaysOut : TakenStep → Type 0
StaysOut step = (step.next ≡ Go) × ¬ Joins step

-- Of the steps of one connection: in one in which it leaves its group nothing is handed out; nor in any later one, while it goes on and does not join a group again.
pub record HandsNothingToWhoLeft (steps : List TakenStep) : Type 0 where
  pub at_once : (earlier later : List TakenStep) (left : TakenStep) → steps ≡ earlier ++ left ∷ later → Leaves left → HandsOutNothing left
  pub from_then : (earlier between later : List TakenStep) (left step : TakenStep) → steps ≡ earlier ++ left ∷ (between ++ step ∷ later)
      → Leaves left → AllByRecursion StaysOut between → ¬ Joins step → HandsOutNothing step

-- the number of the session that a connection has, where its client has its session
abbrev pub session_at : ConnPhase GroupPlace → Option ℕ
session_at phase = session_of (connected_of phase)

-- a step of the session with this number: its connection has it before the step, or after it
abbrev pub IsOfSession : ℕ → TakenStep → Type 0
IsOfSession session step = (session_at step.phase_before ≡ Some session) ⊎ (session_at step.phase_after ≡ Some session)

-- Of the steps of a run: after one in which a session leaves its group, nothing is handed out in any later step of that session, over however many connections, until one in which it
-- joins a group again.
abbrev pub HandsNothingToSessionsThatLeft : List TakenStep → Type 0
HandsNothingToSessionsThatLeft steps =
    (session : ℕ) (earlier between later : List TakenStep) (left step : TakenStep) → steps ≡ earlier ++ left ∷ (between ++ step ∷ later)
    → Leaves left → session_at left.phase_after ≡ Some session → AllByRecursion (λ each. IsOfSession session each → ¬ Joins each) between
    → IsOfSession session step → ¬ Joins step → HandsOutNothing step
