-- How many packets acts step, one after the other.
use Rattle.std.proofs.Common.{◌≡◌, ℕ, ◌+◌, ◌-◌, ◌<◌, ◌≤◌, List, [], ◌∷◌, ◌++◌, length, length-append, Option, Result, Ok, Err, refl, ap, arith}
use Rattle.std.specs.List.{flat_map}
use Rattle.std.proofs.lemmas.Grind.{flat_map-append}
use Rattle.mqtt_wire.specs.Stream.{Unread}
use Rattle.transport.specs.declared.counts.Counts.{Counts}
use Rattle.conn_engine.specs.declared.input.Input.{Input}
use Rattle.conn_engine.specs.declared.input.Input.TheVariants as inputs
use Rattle.conn_engine.specs.Step.{IsNoPacket}
use Rattle.client_table.specs.Streams.{IsInFront}
use Rattle.conn_service.specs.declared.served.Served.{Served}
use Rattle.conn_service.specs.Services.{ServiceState}
use Rattle.conn_service.specs.Acts.{Act, Reads, Writes, Fails, Starves, IsStopped, Stalls, Ends, input_in, packet_in, fault_in, inputs_of, packets_read, faults_met, packets_in}
use Rattle.conn_service.specs.Visits.{Stand}
use Rattle.conn_service.specs.Edges.{DoesAtEdge, DoesAllAtEdge, LeadsAtEdge}
use Rattle.conn_service.specs.Advances.{CountsPackets}

-- these and those are as many as both
pub packets_append : (these those : List Act) → packets_in (these ++ those) ≡ packets_in these + packets_in those
packets_append these those =
    let inputs = flat_map-append input_in these those in
    let packets = ap (λ l. length (flat_map packet_in l)) inputs in
    let faults = ap (λ l. length (flat_map fault_in l)) inputs in
    let packets_apart = ap length (flat_map-append packet_in (inputs_of these) (inputs_of those)) in
    let faults_apart = ap length (flat_map-append fault_in (inputs_of these) (inputs_of those)) in
    let packets_both = length-append (packets_read these) (packets_read those) in
    let faults_both = length-append (faults_met these) (faults_met those) in
    omega arith

-- what stands in front is one
pub one_in_front : (now : ℕ) (input : Input) (unread unread' : Unread) → IsInFront unread input unread' → packets_in (Fails now input ∷ []) ≡ 1
one_in_front now (inputs.Packet packet) unread unread' front = refl
one_in_front now (inputs.Fault fault) unread unread' front = refl
one_in_front now inputs.Tick unread unread' front = absurd front
one_in_front now inputs.EndOfInput unread unread' front = absurd front
one_in_front now inputs.Closing unread unread' front = absurd front

-- and what takes nothing from there is none
pub none_in : (now : ℕ) (input : Input) → IsNoPacket input → packets_in (Fails now input ∷ []) ≡ 0
none_in now (inputs.Packet packet) none = absurd none
none_in now (inputs.Fault fault) none = absurd none
none_in now inputs.Tick none = refl
none_in now inputs.EndOfInput none = refl
none_in now inputs.Closing none = refl

-- neither steps any
pub none_both : (these those : List Act) → packets_in these ≡ 0 → packets_in those ≡ 0 → packets_in (these ++ those) ≡ 0
none_both these those none nor = omega (arith, packets_append these those, none, nor)

-- no more than so many, after acts that step none; and before them
pub few_after : (most : ℕ) (these those : List Act) → packets_in these ≡ 0 → packets_in those ≤ most → packets_in (these ++ those) ≤ most
few_after most these those none few = omega (arith, packets_append these those, none, few)

pub few_before : (most : ℕ) (these those : List Act) → packets_in these ≤ most → packets_in those ≡ 0 → packets_in (these ++ those) ≤ most
few_before most these those few none = omega (arith, packets_append these those, few, none)

-- what stands in front is counted, whatever comes of it
pub counts_one : (now : ℕ) (input : Input) (unread unread' : Unread) (before : ℕ) → 0 < before → IsInFront unread input unread'
    → (packets_in (Fails now input ∷ []) ≤ before) × (packets_in (Fails now input ∷ []) + (before - 1) ≡ before)
counts_one now input unread unread' before some front =
    let one = one_in_front now input unread unread' front in (omega (arith, one, some), omega (arith, one, some))

-- so many are left after these, and those step no more than that
pub few_on : (before mid : ℕ) (these those : List Act) → packets_in these + mid ≡ before → packets_in those ≤ mid → packets_in (these ++ those) ≤ before
few_on before mid these those first few = omega (arith, packets_append these those, first, few)

-- what is left after these and those
pub left_after : (before after : ℕ) (these those : List Act) → packets_in these ≡ 0 → packets_in those + after ≡ before → packets_in (these ++ those) + after ≡ before
left_after before after these those none then = omega (arith, packets_append these those, none, then)

pub left_on : (before mid after : ℕ) (these those : List Act) → packets_in these + mid ≡ before → packets_in those + after ≡ mid → packets_in (these ++ those) + after ≡ before
left_on before mid after these those first then = omega (arith, packets_append these those, first, then)

-- what is counted is so after acts that step none
pub counts_after : {A : Type 0} (result : Result A Served) (before after : ℕ) (these those : List Act) → packets_in these ≡ 0 → CountsPackets result before after those
    → CountsPackets result before after (these ++ those)
counts_after (Ok value) before after these those none then = (few_after before these those none then.0, left_after before after these those none then.1)
counts_after (Err error) before after these those none then = (few_after before these those none then.0, tt)

module _ {P T : Type 0} (counts : T → Counts) (given accepted : T → Option (List ℕ)) where
  none_by : (act : Act) (old new : ServiceState P T) → DoesAtEdge counts given accepted act old new → packets_in (act ∷ []) ≡ 0
  none_by (Reads size its bytes) old new does = refl
  none_by (Starves its bytes) old new does = refl
  none_by (Writes now its) old new does = refl
  none_by IsStopped old new does = refl
  none_by (Stalls now) old new does = refl
  none_by Ends old new does = refl
  none_by act old new does = absurd does

  -- acts towards the transport step none
  pub none_at_edge : (acts : List Act) (old new : ServiceState P T) → DoesAllAtEdge counts given accepted acts old new → packets_in acts ≡ 0
  none_at_edge [] old new same = refl
  none_at_edge (act ∷ acts) old new does = none_both (act ∷ []) acts (none_by act old does.0 does.1) (none_at_edge acts does.0 new does.2)

  -- so no more than so many, with those in front of them or after them
  pub few_from_edge : {now : ℕ} {stand : Stand} (most : ℕ) (acts : List Act) (old mid : ServiceState P T) (edge : LeadsAtEdge counts given accepted now stand old mid) → packets_in acts ≤ most
      → packets_in (edge.acts ++ acts) ≤ most
  few_from_edge most acts old mid edge few = few_after most edge.acts acts (none_at_edge edge.acts old mid edge.does) few

  pub few_to_edge : {now : ℕ} {stand : Stand} (most : ℕ) (acts : List Act) (mid new : ServiceState P T) (edge : LeadsAtEdge counts given accepted now stand mid new) → packets_in acts ≤ most
      → packets_in (acts ++ edge.acts) ≤ most
  few_to_edge most acts mid new edge few = few_before most acts edge.acts few (none_at_edge edge.acts mid new edge.does)
