-- The clients of a broker, by their numbers: what happens to one of them.
use Rattle.std.specs.Prelude.{◌≡◌, ◌⊎◌, ℕ, List, [], ◌∷◌, reverse, Option, Some, None, Result, Ok, Err, slice_get, slice_set}
use Rattle.conn_supply.specs.declared.supply.NoMemory.{NoMemory}
use Rattle.conn_supply.specs.SupplyCalls.{SupplyCall}
use Rattle.conn_engine.specs.declared.input.Input.{Input}
use Rattle.conn_engine.specs.declared.input.Input.TheVariants as inputs
use Rattle.conn_engine.specs.declared.phase.Opening.{Opening}
use Rattle.conn_engine.specs.declared.phase.ConnPhase.{ConnPhase}
use Rattle.conn_engine.specs.declared.phase.ConnPhase.TheVariants.{Unconnected, Waiting, Connected, Ended}
use Rattle.client_table.specs.Clients.{ClientState, StepOutput, arrived, ClientSteps, IsGivenUp}
use Rattle.client_table.specs.Streams.{fed, Reads, FailsToRead, Ticks, FailsToTick}

-- a client whose connection has ended is gone
abbrev pub kept_as : {P : Type 0} → ConnPhase P → ClientState P → Option (ClientState P)
kept_as (Unconnected opened) client = Some client
kept_as (Waiting request ticks) client = Some client
kept_as (Connected connected) client = Some client
kept_as Ended client = None

abbrev pub kept : {P : Type 0} → ClientState P → Option (ClientState P)
kept client = kept_as client.conn.phase client

-- the cell of this number becomes another, and the others stay
pub record InCell {P : Type 0} (old : List (Option (ClientState P))) (number : ℕ) (Becomes : Option (ClientState P) → Option (ClientState P) → Type 0)
    (new : List (Option (ClientState P))) : Type 0 where
  pub before : Option (ClientState P)
  pub after : Option (ClientState P)
  pub has : slice_get old number ≡ Some before
  pub becomes : Becomes before after
  pub is : new ≡ slice_set old number after

-- a connection is opened where none of its number is; else nothing happens
abbrev pub Opens : {P : Type 0} → ℕ → Opening → Option (ClientState P) → Option (ClientState P) → Type 0
Opens number opening None after = after ≡ Some (arrived (record { number = number; latest = opening.at; phase = Unconnected opening }))
Opens number opening (Some client) after = after ≡ Some client

module _ {S P : Type 0} (Does : ClientState P → List StepOutput → ClientState P → S → Type 0) where
  -- what happens to the client of a number, where there is one: what is said, and what becomes of it
  abbrev pub ToClient : S → Option (ClientState P) → List StepOutput → Option (ClientState P) → S → Type 0
  ToClient old None more after new = (more ≡ []) × (after ≡ None) × (new ≡ old)
  ToClient old (Some client) more after new = (client' : ClientState P) × Does client more client' new × (after ≡ kept client')

  -- what may only be where there is a client
  abbrev pub ToSome : Option (ClientState P) → List StepOutput → Option (ClientState P) → S → Type 0
  ToSome None more after new = ⊥
  ToSome (Some client) more after new = (client' : ClientState P) × Does client more client' new × (after ≡ kept client')

module _ {S P : Type 0} (call : S → SupplyCall P → S → Type 0) (slot_of : P → ℕ) where
  -- a piece of the stream of a client comes
  abbrev pub Receives : S → Option (ClientState P) → ℕ → List ℕ → List StepOutput → Result (Unit {0}) NoMemory → Option (ClientState P) → S → Type 0
  Receives old before now piece more (Ok done) after new = ToClient (λ client more client' new. Reads call slot_of old (fed client piece) now more client' new) old before more after new
  Receives old before now piece more (Err error) after new = ToSome (λ client more client' new.
      (IsGivenUp call slot_of old client now inputs.EndOfInput client' new × (more ≡ [])) ⊎ FailsToRead call slot_of old (fed client piece) now more client' new) before more after new

  -- time goes on
  abbrev pub TicksFor : S → Option (ClientState P) → ℕ → List StepOutput → Result (Unit {0}) NoMemory → Option (ClientState P) → S → Type 0
  TicksFor old before now more (Ok done) after new = ToClient (λ client more client' new. Ticks call slot_of old client now more client' new) old before more after new
  TicksFor old before now more (Err error) after new = ToSome (λ client more client' new. FailsToTick call slot_of old client now more client' new) before more after new

  -- a connection ends, since its client's stream has ended or the broker closes
  abbrev pub EndsFor : S → Option (ClientState P) → ℕ → Input → List StepOutput → Result (Unit {0}) NoMemory → Option (ClientState P) → S → Type 0
  EndsFor old before now input more (Ok done) after new =
      ToClient (λ client more client' new. (output : StepOutput) × (more ≡ output ∷ []) × ClientSteps call slot_of old client now input output client' new) old before more after new
  EndsFor old before now input more (Err error) after new =
      ToSome (λ client more client' new. (more ≡ []) × IsGivenUp call slot_of old client now input client' new) before more after new

  -- each connection that is there ends as where the broker closes, the last one first
  abbrev pub Abandons : S → Option (ClientState P) → ℕ → S → Type 0
  Abandons old None now new = new ≡ old
  Abandons old (Some client) now new = (client' : ClientState P) × IsGivenUp call slot_of old client now inputs.Closing client' new

  abbrev pub AbandonsAll : S → List (Option (ClientState P)) → ℕ → S → Type 0
  AbandonsAll old [] now new = new ≡ old
  AbandonsAll old (cell ∷ cells) now new = (mid : S) × Abandons old cell now mid × AbandonsAll mid cells now new

  abbrev pub AbandonsEach : S → List (Option (ClientState P)) → ℕ → S → Type 0
  AbandonsEach old cells now new = AbandonsAll old (reverse cells) now new
