-- What was given back is handed out first, whatever a client does.
use Rattle.std.proofs.Common.{◌≡◌, ℕ, List, [], ◌∷◌, Option, Some, None, Result, Ok, Err, ⊎_elim, inl, inr}
use Rattle.conn_supply.specs.declared.supply.NoMemory.{NoMemory}
use Rattle.conn_supply.specs.SupplyCalls.{SupplyCall}
use Rattle.conn_engine.specs.declared.input.Input.{Input}
use Rattle.conn_engine.specs.declared.input.Input.TheVariants as inputs
use Rattle.conn_laws.specs.ReturnedFirst.{CallsReturnedFirst}
use Rattle.conn_laws.proofs.ReturnedFirst.{none, behind, stepped}
use Rattle.conn_laws.proofs.ReturnedFirstFailing.{failed}
use Rattle.client_table.specs.Cells.{Receives, TicksFor, EndsFor}
use Rattle.client_table.specs.Clients.{ClientState, moment_of, StepOutput, ClientSteps, ClientFailsToStep, IsGivenUp}
use Rattle.client_table.specs.Streams.{fed, Reads, FailsToReadOne, FailsToRead, Ticks, FailsToTick}

module _ {S P : Type 0} (call : S → SupplyCall P → S → Type 0) (slot_of : P → ℕ) where
  moves : (old new : S) (client after : ClientState P) (now : ℕ) (input : Input) (output : StepOutput) → ClientSteps call slot_of old client now input output after new
      → CallsReturnedFirst call old new
  moves old new client after now input output moved =
      stepped call slot_of old new client.conn.number (moment_of client now) client.conn.phase after.conn.phase input output.packets output.next moved.stepped

  fails_to_move : (old new : S) (client after : ClientState P) (now : ℕ) (input : Input) → ClientFailsToStep call slot_of old client now input after new → CallsReturnedFirst call old new
  fails_to_move old new client after now input fails = failed call slot_of old new client.conn.number (moment_of client now) client.conn.phase input fails.failed

  given_up : (old new : S) (client after : ClientState P) (now : ℕ) (input : Input) → IsGivenUp call slot_of old client now input after new → CallsReturnedFirst call old new
  given_up old new client after now input (inl moved) = moves old new client after now input moved.0 moved.1
  given_up old new client after now input (inr fails) = fails_to_move old new client after now input fails

  reads : (outputs : List StepOutput) (old new : S) (client after : ClientState P) (now : ℕ) → Reads call slot_of old client now outputs after new → CallsReturnedFirst call old new
  reads [] old new client after now read = none call old new read.2
  reads (outputs ∷ rest) old new client after now (inl last) = moves old new client after now last.0.input outputs last.0.moved
  reads (outputs ∷ rest) old new client after now (inr more) =
      behind call old more.1 new (moves old more.1 client more.0 now _ outputs more.2.moved) (reads rest more.1 new more.0 after now more.3)

  ticks : (outputs : List StepOutput) (old new : S) (client after : ClientState P) (now : ℕ) → Ticks call slot_of old client now outputs after new → CallsReturnedFirst call old new
  ticks [] old new client after now ticked = absurd ticked
  ticks (outputs ∷ rest) old new client after now (inl last) = moves old new client after now inputs.Tick outputs last.0
  ticks (outputs ∷ rest) old new client after now (inr more) =
      behind call old more.1 new (moves old more.1 client more.0 now inputs.Tick outputs more.2) (reads rest more.1 new more.0 after now more.4)

  fails_to_read_one : (old new : S) (client after : ClientState P) (now : ℕ) → FailsToReadOne call slot_of old client now after new → CallsReturnedFirst call old new
  fails_to_read_one old new client after now (inl given) = given_up old new client after now inputs.EndOfInput given
  fails_to_read_one old new client after now (inr fails) = fails_to_move old new client after now fails.0 fails.2

  fails_to_read : (outputs : List StepOutput) (old new : S) (client after : ClientState P) (now : ℕ) → FailsToRead call slot_of old client now outputs after new → CallsReturnedFirst call old new
  fails_to_read [] old new client after now fails = fails_to_read_one old new client after now fails
  fails_to_read (outputs ∷ rest) old new client after now fails =
      behind call old fails.1 new (moves old fails.1 client fails.0 now _ outputs fails.2.moved) (fails_to_read rest fails.1 new fails.0 after now fails.3)

  fails_at_tick : (old new : S) (client after : ClientState P) (now : ℕ) → FailsToTick call slot_of old client now [] after new → CallsReturnedFirst call old new
  fails_at_tick old new client after now (inl given) = given_up old new client after now inputs.EndOfInput given
  fails_at_tick old new client after now (inr fails) = fails_to_move old new client after now inputs.Tick fails

  fails_to_tick : (outputs : List StepOutput) (old new : S) (client after : ClientState P) (now : ℕ) → FailsToTick call slot_of old client now outputs after new → CallsReturnedFirst call old new
  fails_to_tick [] old new client after now fails = fails_at_tick old new client after now fails
  fails_to_tick (outputs ∷ rest) old new client after now fails =
      behind call old fails.1 new (moves old fails.1 client fails.0 now inputs.Tick outputs fails.2) (fails_to_read rest fails.1 new fails.0 after now fails.4)

  -- what happens to the client in a cell
  pub receives : (result : Result (Unit {0}) NoMemory) (before : Option (ClientState P)) (old new : S) (now : ℕ) (piece : List ℕ) (more : List StepOutput) (after : Option (ClientState P))
      → Receives call slot_of old before now piece more result after new → CallsReturnedFirst call old new
  receives (Ok done) None old new now piece more after does = none call old new does.2
  receives (Ok done) (Some client) old new now piece more after does = reads more old new (fed client piece) does.0 now does.1
  receives (Err error) None old new now piece more after does = absurd does
  receives (Err error) (Some client) old new now piece more after does =
      ⊎_elim
      (λ (given : IsGivenUp call slot_of old client now inputs.EndOfInput does.0 new × (more ≡ [])). given_up old new client does.0 now inputs.EndOfInput given.0)
      (λ (fails : FailsToRead call slot_of old (fed client piece) now more does.0 new). fails_to_read more old new (fed client piece) does.0 now fails)
      does.1

  pub ticks_for : (result : Result (Unit {0}) NoMemory) (before : Option (ClientState P)) (old new : S) (now : ℕ) (more : List StepOutput) (after : Option (ClientState P))
      → TicksFor call slot_of old before now more result after new → CallsReturnedFirst call old new
  ticks_for (Ok done) None old new now more after does = none call old new does.2
  ticks_for (Ok done) (Some client) old new now more after does = ticks more old new client does.0 now does.1
  ticks_for (Err error) None old new now more after does = absurd does
  ticks_for (Err error) (Some client) old new now more after does = fails_to_tick more old new client does.0 now does.1

  pub ends_for : (result : Result (Unit {0}) NoMemory) (before : Option (ClientState P)) (old new : S) (now : ℕ) (input : Input) (more : List StepOutput) (after : Option (ClientState P))
      → EndsFor call slot_of old before now input more result after new → CallsReturnedFirst call old new
  ends_for (Ok done) None old new now input more after does = none call old new does.2
  ends_for (Ok done) (Some client) old new now input more after does = moves old new client does.0 now input does.1.0 does.1.2
  ends_for (Err error) None old new now input more after does = absurd does
  ends_for (Err error) (Some client) old new now input more after does = given_up old new client does.0 now input does.1.1
