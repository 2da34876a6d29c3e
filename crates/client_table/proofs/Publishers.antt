-- What is offered for a client is offered from its connection.
use Rattle.std.proofs.Common.{◌≡◌, ℕ, List, [], ◌∷◌, Option, Some, None, Result, Ok, Err, ⊎_elim, inl, inr, subst, ◌∙◌}
use Rattle.conn_supply.specs.declared.supply.NoMemory.{NoMemory}
use Rattle.conn_supply.specs.SupplyCalls.{SupplyCall}
use Rattle.conn_engine.specs.declared.input.Input.{Input}
use Rattle.conn_engine.specs.declared.input.Input.TheVariants as inputs
use Rattle.conn_laws.specs.Publishers.{CallsFrom}
use Rattle.conn_laws.proofs.Publishers.{none, behind, stepped, failed}
use Rattle.client_table.specs.Cells.{Receives, TicksFor, EndsFor}
use Rattle.client_table.specs.Clients.{ClientState, moment_of, StepOutput, ClientSteps, ClientFailsToStep, IsGivenUp}
use Rattle.client_table.specs.Numbers.{IsNumbered}
use Rattle.client_table.specs.Streams.{fed, Reads, FailsToReadOne, FailsToRead, Ticks, FailsToTick}

module _ {S P : Type 0} (call : S → SupplyCall P → S → Type 0) (slot_of : P → ℕ) where
  moves : (number : ℕ) (old new : S) (client after : ClientState P) (now : ℕ) (input : Input) (output : StepOutput) → client.conn.number ≡ number
      → ClientSteps call slot_of old client now input output after new → CallsFrom call number old new
  moves number old new client after now input output is moved =
      subst (λ n. CallsFrom call n old new) is
      (stepped call slot_of old new client.conn.number (moment_of client now) client.conn.phase after.conn.phase input output.packets output.next moved.stepped)

  fails_to_move : (number : ℕ) (old new : S) (client after : ClientState P) (now : ℕ) (input : Input) → client.conn.number ≡ number
      → ClientFailsToStep call slot_of old client now input after new → CallsFrom call number old new
  fails_to_move number old new client after now input is fails =
      subst (λ n. CallsFrom call n old new) is (failed call slot_of old new client.conn.number (moment_of client now) client.conn.phase input fails.failed)

  given_up : (number : ℕ) (old new : S) (client after : ClientState P) (now : ℕ) (input : Input) → client.conn.number ≡ number
      → IsGivenUp call slot_of old client now input after new → CallsFrom call number old new
  given_up number old new client after now input is (inl moved) = moves number old new client after now input moved.0 is moved.1
  given_up number old new client after now input is (inr fails) = fails_to_move number old new client after now input is fails

  reads : (outputs : List StepOutput) (number : ℕ) (old new : S) (client after : ClientState P) (now : ℕ) → client.conn.number ≡ number
      → Reads call slot_of old client now outputs after new → CallsFrom call number old new
  reads [] number old new client after now is read = none call number old new read.2
  reads (outputs ∷ rest) number old new client after now is (inl last) = moves number old new client after now last.0.input outputs is last.0.moved
  reads (outputs ∷ rest) number old new client after now is (inr more) =
      behind call number old more.1 new (moves number old more.1 client more.0 now _ outputs is more.2.moved)
      (reads rest number more.1 new more.0 after now (more.2.moved.same ∙ is) more.3)

  fails_to_read_one : (number : ℕ) (old new : S) (client after : ClientState P) (now : ℕ) → client.conn.number ≡ number
      → FailsToReadOne call slot_of old client now after new → CallsFrom call number old new
  fails_to_read_one number old new client after now is (inl given) = given_up number old new client after now inputs.EndOfInput is given
  fails_to_read_one number old new client after now is (inr fails) = fails_to_move number old new client after now fails.0 is fails.2

  fails_to_read : (outputs : List StepOutput) (number : ℕ) (old new : S) (client after : ClientState P) (now : ℕ) → client.conn.number ≡ number
      → FailsToRead call slot_of old client now outputs after new → CallsFrom call number old new
  fails_to_read [] number old new client after now is fails = fails_to_read_one number old new client after now is fails
  fails_to_read (outputs ∷ rest) number old new client after now is fails =
      behind call number old fails.1 new (moves number old fails.1 client fails.0 now _ outputs is fails.2.moved)
      (fails_to_read rest number fails.1 new fails.0 after now (fails.2.moved.same ∙ is) fails.3)

  ticks : (outputs : List StepOutput) (number : ℕ) (old new : S) (client after : ClientState P) (now : ℕ) → client.conn.number ≡ number
      → Ticks call slot_of old client now outputs after new → CallsFrom call number old new
  ticks [] number old new client after now is ticked = absurd ticked
  ticks (outputs ∷ rest) number old new client after now is (inl last) = moves number old new client after now inputs.Tick outputs is last.0
  ticks (outputs ∷ rest) number old new client after now is (inr more) =
      behind call number old more.1 new (moves number old more.1 client more.0 now inputs.Tick outputs is more.2)
      (reads rest number more.1 new more.0 after now (more.2.same ∙ is) more.4)

  fails_at_tick : (number : ℕ) (old new : S) (client after : ClientState P) (now : ℕ) → client.conn.number ≡ number
      → FailsToTick call slot_of old client now [] after new → CallsFrom call number old new
  fails_at_tick number old new client after now is (inl given) = given_up number old new client after now inputs.EndOfInput is given
  fails_at_tick number old new client after now is (inr fails) = fails_to_move number old new client after now inputs.Tick is fails

  fails_to_tick : (outputs : List StepOutput) (number : ℕ) (old new : S) (client after : ClientState P) (now : ℕ) → client.conn.number ≡ number
      → FailsToTick call slot_of old client now outputs after new → CallsFrom call number old new
  fails_to_tick [] number old new client after now is fails = fails_at_tick number old new client after now is fails
  fails_to_tick (outputs ∷ rest) number old new client after now is fails =
      behind call number old fails.1 new (moves number old fails.1 client fails.0 now inputs.Tick outputs is fails.2)
      (fails_to_read rest number fails.1 new fails.0 after now (fails.2.same ∙ is) fails.4)

  -- what happens to the client in a cell
  pub receives : (result : Result (Unit {0}) NoMemory) (before : Option (ClientState P)) (number : ℕ) (old new : S) (now : ℕ) (piece : List ℕ) (more : List StepOutput) (after : Option (ClientState P))
      → IsNumbered number before → Receives call slot_of old before now piece more result after new → CallsFrom call number old new
  receives (Ok done) None number old new now piece more after is does = none call number old new does.2
  receives (Ok done) (Some client) number old new now piece more after is does = reads more number old new (fed client piece) does.0 now is does.1
  receives (Err error) None number old new now piece more after is does = absurd does
  receives (Err error) (Some client) number old new now piece more after is does =
      ⊎_elim
      (λ (given : IsGivenUp call slot_of old client now inputs.EndOfInput does.0 new × (more ≡ [])). given_up number old new client does.0 now inputs.EndOfInput is given.0)
      (λ (fails : FailsToRead call slot_of old (fed client piece) now more does.0 new). fails_to_read more number old new (fed client piece) does.0 now is fails)
      does.1

  pub ticks_for : (result : Result (Unit {0}) NoMemory) (before : Option (ClientState P)) (number : ℕ) (old new : S) (now : ℕ) (more : List StepOutput) (after : Option (ClientState P))
      → IsNumbered number before → TicksFor call slot_of old before now more result after new → CallsFrom call number old new
  ticks_for (Ok done) None number old new now more after is does = none call number old new does.2
  ticks_for (Ok done) (Some client) number old new now more after is does = ticks more number old new client does.0 now is does.1
  ticks_for (Err error) None number old new now more after is does = absurd does
  ticks_for (Err error) (Some client) number old new now more after is does = fails_to_tick more number old new client does.0 now is does.1

  pub ends_for : (result : Result (Unit {0}) NoMemory) (before : Option (ClientState P)) (number : ℕ) (old new : S) (now : ℕ) (input : Input) (more : List StepOutput) (after : Option (ClientState P))
      → IsNumbered number before → EndsFor call slot_of old before now input more result after new → CallsFrom call number old new
  ends_for (Ok done) None number old new now input more after is does = none call number old new does.2
  ends_for (Ok done) (Some client) number old new now input more after is does = moves number old new client does.0 now input does.1.0 is does.1.2
  ends_for (Err error) None number old new now input more after is does = absurd does
  ends_for (Err error) (Some client) number old new now input more after is does = given_up number old new client does.0 now input is does.1.1
