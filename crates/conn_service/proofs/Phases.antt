-- What each step keeps of the phase of a connection, as its quota, each act of its life keeps.
use Rattle.std.proofs.Common.{◌≡◌, ℕ, Bool, List, Option, refl, sym, ap, subst, ◌∙◌, inl, inr}
use Rattle.transport.specs.declared.counts.Counts.{Counts}
use Rattle.transport.specs.declared.answers.Got.{Got}
use Rattle.transport.specs.declared.answers.Got.TheVariants as got
use Rattle.mqtt_packet.specs.declared.packet.Packet.{Packet}
use Rattle.conn_supply.specs.declared.reply.Then.{Then}
use Rattle.conn_supply.specs.SupplyCalls.{SupplyCall}
use Rattle.conn_engine.specs.declared.input.Input.{Input}
use Rattle.conn_engine.specs.declared.input.Input.TheVariants as inputs
use Rattle.conn_engine.specs.declared.phase.ConnPhase.{ConnPhase}
use Rattle.conn_engine.specs.declared.phase.ConnPhase.TheVariants.{Ended}
use Rattle.conn_engine.specs.Step.{Steps as StepsOnce}
use Rattle.client_table.specs.Clients.{ClientState, moment_of, step_output, StepOutput, ClientSteps, IsGivenUp}
use Rattle.conn_service.specs.Services.{ServiceState}
use Rattle.conn_service.specs.Acts.{Act, Enters, Leaves, Asks, Reads, Writes, Steps, Loses, Fails, Starves, IsFull, IsStopped, Stalls, GivesUp, Ends, Others}
use Rattle.conn_service.specs.Moments.{fed_by}
use Rattle.conn_service.specs.Lives.{Does}

module _ {S P T : Type 0} (call : S → SupplyCall P → S → Type 0) (begins ends : S → S → Type 0) (visiting : S → Bool) (slot_of : P → ℕ)
    (counts : T → Counts) (given accepted : T → Option (List ℕ)) (Holds : ConnPhase P → Type 0) (over : Holds Ended)
    (stays : (number now : ℕ) (phase phase' : ConnPhase P) (input : Input) (sent : List Packet) (next : Then) (old new : S)
    → StepsOnce call slot_of old number phase now input sent next phase' new → Holds phase → Holds phase') where
  abbrev IsWithin : ServiceState P T → Type 0
  IsWithin service = Holds service.client.conn.phase

  same_client : (old new : ServiceState P T) → new.client ≡ old.client → IsWithin old → IsWithin new
  same_client old new is within = subst (λ (c : ClientState P). Holds c.conn.phase) (sym is) within

  moves : (now : ℕ) (input : Input) (said : StepOutput) (client client' : ClientState P) (supply supply' : S) → ClientSteps call slot_of supply client now input said client' supply'
      → Holds client.conn.phase → Holds client'.conn.phase
  moves now input said client client' supply supply' moved within =
      stays client.conn.number (moment_of client now) client.conn.phase client'.conn.phase input said.packets said.next supply supply' moved.stepped within

  over_within : (client : ClientState P) → client.conn.phase ≡ Ended → Holds client.conn.phase
  over_within client is = subst Holds (sym is) over

  given_up : (now : ℕ) (input : Input) (client client' : ClientState P) (supply supply' : S) → IsGivenUp call slot_of supply client now input client' supply'
      → Holds client.conn.phase → Holds client'.conn.phase
  given_up now input client client' supply supply' (inl moved) within = moves now input moved.0 client client' supply supply' moved.1 within
  given_up now input client client' supply supply' (inr fails) within = over_within client' fails.over

  same_window_state : (its : Got) (client : ClientState P) (bytes : List ℕ) → (fed_by its client bytes).conn.phase ≡ client.conn.phase
  same_window_state (got.Bytes count) client bytes = refl
  same_window_state got.Idle client bytes = refl
  same_window_state got.End client bytes = refl
  same_window_state got.Failed client bytes = refl

  pub kept_on : (act : Act) (old new : ServiceState P T) (supply supply' : S) → IsWithin old → Does call begins ends visiting slot_of counts given accepted act old supply new supply' → IsWithin new
  kept_on (Enters is_open reads) old new supply supply' within does = same_client old new (ap (λ (s : ServiceState P T). s.client) does.becomes) within
  kept_on Leaves old new supply supply' within does = same_client old new (ap (λ (s : ServiceState P T). s.client) does.same) within
  kept_on (Asks is_kicked) old new supply supply' within does = same_client old new (ap (λ (s : ServiceState P T). s.client) does.same) within
  kept_on Others old new supply supply' within does = same_client old new (ap (λ (s : ServiceState P T). s.client) does) within
  kept_on (Starves its bytes) old new supply supply' within does = same_client old new (ap (λ (s : ServiceState P T). s.client) does.does.becomes) within
  kept_on (Writes now put) old new supply supply' within does = same_client old new (ap (λ (s : ServiceState P T). s.client) does.does.becomes) within
  kept_on (Reads size its bytes) old new supply supply' within does = subst Holds (sym (ap (λ (s : ServiceState P T). s.client.conn.phase) does.does.becomes ∙ same_window_state its old.client bytes)) within
  kept_on (Steps now input packets next) old new supply supply' within does = moves now input (step_output old.client.conn.number packets next) old.client new.client supply supply' does.moved within
  kept_on (Loses now input packets next) old new supply supply' within does = moves now input (step_output old.client.conn.number packets next) old.client new.client supply supply' does.moved within
  kept_on (Fails now input) old new supply supply' within does = over_within new.client does.failed.over
  kept_on (IsFull now) old new supply supply' within does = given_up now inputs.EndOfInput old.client new.client supply supply' does.given_up within
  kept_on (GivesUp now) old new supply supply' within does = given_up now inputs.EndOfInput old.client new.client supply supply' does.given_up within
  kept_on IsStopped old new supply supply' within does = same_client old new (ap (λ (s : ServiceState P T). s.client) does.does.becomes) within
  kept_on (Stalls now) old new supply supply' within does = same_client old new (ap (λ (s : ServiceState P T). s.client) does.does.becomes) within
  kept_on Ends old new supply supply' within does = same_client old new (ap (λ (s : ServiceState P T). s.client) does.does.becomes) within
