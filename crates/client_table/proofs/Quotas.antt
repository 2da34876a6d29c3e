-- What each step keeps of a client's phase, as its quota, is kept whatever is done to it.
use Rattle.std.proofs.Common.{◌≡◌, ◌≤◌, ℕ, List, [], ◌∷◌, Option, Some, None, Result, Ok, Err, sym, subst, ⊎_elim, inl, inr}
use Rattle.conn_supply.specs.declared.supply.NoMemory.{NoMemory}
use Rattle.conn_supply.specs.SupplyCalls.{SupplyCall}
use Rattle.conn_supply.specs.declared.reply.Then.{Then}
use Rattle.mqtt_packet.specs.declared.packet.Packet.{Packet}
use Rattle.conn_engine.specs.declared.input.Input.{Input}
use Rattle.conn_engine.specs.declared.input.Input.TheVariants as inputs
use Rattle.conn_engine.specs.declared.phase.Opening.{Opening}
use Rattle.conn_engine.specs.declared.phase.ConnPhase.{ConnPhase}
use Rattle.conn_engine.specs.declared.phase.ConnPhase.TheVariants.{Unconnected, Waiting, Connected, Ended}
use Rattle.conn_engine.specs.Step.{Steps}
use Rattle.client_table.specs.Cells.{kept, kept_as, Opens, Receives, TicksFor, EndsFor}
use Rattle.client_table.specs.Clients.{ClientState, moment_of, StepOutput, ClientSteps, ClientFailsToStep, IsGivenUp}
use Rattle.client_table.specs.Quotas.{HoldsInCell, IsCellWithinLimit, IsCellWithinQuota}
use Rattle.client_table.specs.Streams.{fed, Reads, FailsToRead, Ticks, FailsToTick}

module _ {S P : Type 0} (call : S → SupplyCall P → S → Type 0) (slot_of : P → ℕ) (Holds : ConnPhase P → Type 0) (over : Holds Ended)
    (stays : (number now : ℕ) (phase phase' : ConnPhase P) (input : Input) (sent : List Packet) (next : Then) (old new : S)
    → Steps call slot_of old number phase now input sent next phase' new → Holds phase → Holds phase') where
  abbrev IsWithin : ClientState P → Type 0
  IsWithin client = Holds client.conn.phase

  abbrev IsCellWithin : Option (ClientState P) → Type 0
  IsCellWithin cell = HoldsInCell Holds cell

  kept_within_as : (phase : ConnPhase P) (client : ClientState P) → IsWithin client → IsCellWithin (kept_as phase client)
  kept_within_as (Unconnected opened) client within = within
  kept_within_as (Waiting request ticks) client within = within
  kept_within_as (Connected connected) client within = within
  kept_within_as Ended client within = tt

  becomes_within : (client : ClientState P) (after : Option (ClientState P)) → after ≡ kept client → IsWithin client → IsCellWithin after
  becomes_within client after is within = subst IsCellWithin (sym is) (kept_within_as client.conn.phase client within)

  moves : (old new : S) (client after : ClientState P) (now : ℕ) (input : Input) (output : StepOutput) → ClientSteps call slot_of old client now input output after new → IsWithin client → IsWithin after
  moves old new client after now input output moved within =
      stays client.conn.number (moment_of client now) client.conn.phase after.conn.phase input output.packets output.next old new moved.stepped within

  fails_to_move : (old new : S) (client after : ClientState P) (now : ℕ) (input : Input) → ClientFailsToStep call slot_of old client now input after new → IsWithin after
  fails_to_move old new client after now input fails = subst Holds (sym fails.over) over

  given_up : (old new : S) (client after : ClientState P) (now : ℕ) (input : Input) → IsGivenUp call slot_of old client now input after new → IsWithin client → IsWithin after
  given_up old new client after now input (inl moved) within = moves old new client after now input moved.0 moved.1 within
  given_up old new client after now input (inr fails) within = fails_to_move old new client after now input fails

  reads : (outputs : List StepOutput) (old new : S) (client after : ClientState P) (now : ℕ) → Reads call slot_of old client now outputs after new → IsWithin client → IsWithin after
  reads [] old new client after now read within = subst IsWithin (sym read.1) within
  reads (outputs ∷ rest) old new client after now (inl last) within = moves old new client after now last.0.input outputs last.0.moved within
  reads (outputs ∷ rest) old new client after now (inr more) within =
      reads rest more.1 new more.0 after now more.3 (moves old more.1 client more.0 now _ outputs more.2.moved within)

  fails_to_read : (outputs : List StepOutput) (old new : S) (client after : ClientState P) (now : ℕ) → FailsToRead call slot_of old client now outputs after new → IsWithin client → IsWithin after
  fails_to_read [] old new client after now (inl given) within = given_up old new client after now inputs.EndOfInput given within
  fails_to_read [] old new client after now (inr fails) within = fails_to_move old new client after now fails.0 fails.2
  fails_to_read (outputs ∷ rest) old new client after now fails within =
      fails_to_read rest fails.1 new fails.0 after now fails.3 (moves old fails.1 client fails.0 now _ outputs fails.2.moved within)

  ticks : (outputs : List StepOutput) (old new : S) (client after : ClientState P) (now : ℕ) → Ticks call slot_of old client now outputs after new → IsWithin client → IsWithin after
  ticks [] old new client after now ticked within = absurd ticked
  ticks (outputs ∷ rest) old new client after now (inl last) within = moves old new client after now inputs.Tick outputs last.0 within
  ticks (outputs ∷ rest) old new client after now (inr more) within =
      reads rest more.1 new more.0 after now more.4 (moves old more.1 client more.0 now inputs.Tick outputs more.2 within)

  fails_to_tick : (outputs : List StepOutput) (old new : S) (client after : ClientState P) (now : ℕ) → FailsToTick call slot_of old client now outputs after new → IsWithin client → IsWithin after
  fails_to_tick [] old new client after now (inl given) within = given_up old new client after now inputs.EndOfInput given within
  fails_to_tick [] old new client after now (inr fails) within = fails_to_move old new client after now inputs.Tick fails
  fails_to_tick (outputs ∷ rest) old new client after now fails within =
      fails_to_read rest fails.1 new fails.0 after now fails.4 (moves old fails.1 client fails.0 now inputs.Tick outputs fails.2 within)

  -- what happens to the client in a cell
  pub receives : (result : Result (Unit {0}) NoMemory) (before : Option (ClientState P)) (old new : S) (now : ℕ) (piece : List ℕ) (more : List StepOutput) (after : Option (ClientState P))
      → Receives call slot_of old before now piece more result after new → IsCellWithin before → IsCellWithin after
  receives (Ok done) None old new now piece more after does within = subst IsCellWithin (sym does.1) tt
  receives (Ok done) (Some client) old new now piece more after does within =
      becomes_within does.0 after does.2 (reads more old new (fed client piece) does.0 now does.1 within)
  receives (Err error) None old new now piece more after does within = absurd does
  receives (Err error) (Some client) old new now piece more after does within =
      becomes_within does.0 after does.2
      (⊎_elim
      (λ (given : IsGivenUp call slot_of old client now inputs.EndOfInput does.0 new × (more ≡ [])). given_up old new client does.0 now inputs.EndOfInput given.0 within)
      (λ (fails : FailsToRead call slot_of old (fed client piece) now more does.0 new). fails_to_read more old new (fed client piece) does.0 now fails within)
      does.1)

  pub ticks_for : (result : Result (Unit {0}) NoMemory) (before : Option (ClientState P)) (old new : S) (now : ℕ) (more : List StepOutput) (after : Option (ClientState P))
      → TicksFor call slot_of old before now more result after new → IsCellWithin before → IsCellWithin after
  ticks_for (Ok done) None old new now more after does within = subst IsCellWithin (sym does.1) tt
  ticks_for (Ok done) (Some client) old new now more after does within = becomes_within does.0 after does.2 (ticks more old new client does.0 now does.1 within)
  ticks_for (Err error) None old new now more after does within = absurd does
  ticks_for (Err error) (Some client) old new now more after does within = becomes_within does.0 after does.2 (fails_to_tick more old new client does.0 now does.1 within)

  pub ends_for : (result : Result (Unit {0}) NoMemory) (before : Option (ClientState P)) (old new : S) (now : ℕ) (input : Input) (more : List StepOutput) (after : Option (ClientState P))
      → EndsFor call slot_of old before now input more result after new → IsCellWithin before → IsCellWithin after
  ends_for (Ok done) None old new now input more after does within = subst IsCellWithin (sym does.1) tt
  ends_for (Ok done) (Some client) old new now input more after does within =
      becomes_within does.0 after does.2 (moves old new client does.0 now input does.1.0 does.1.2 within)
  ends_for (Err error) None old new now input more after does within = absurd does
  ends_for (Err error) (Some client) old new now input more after does within = becomes_within does.0 after does.2 (given_up old new client does.0 now input does.1.1 within)

-- a connection that is opened was sent nothing
pub opens : {P : Type 0} (number : ℕ) (opening : Opening) (before after : Option (ClientState P)) → Opens number opening before after → IsCellWithinQuota before → IsCellWithinQuota after
opens number opening None after is within = subst IsCellWithinQuota (sym is) tt
opens number opening (Some client) after is within = subst IsCellWithinQuota (sym is) within

-- and it is within the limit that it is opened with
pub limits : {P : Type 0} (limit number : ℕ) (opening : Opening) (before after : Option (ClientState P)) → Opens number opening before after → opening.limits.max_inflight ≤ limit
    → IsCellWithinLimit limit before → IsCellWithinLimit limit after
limits limit number opening None after is allowed within = subst (IsCellWithinLimit limit) (sym is) allowed
limits limit number opening (Some client) after is allowed within = subst (IsCellWithinLimit limit) (sym is) within
