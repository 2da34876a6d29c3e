-- A socket as contracts see it, and what its calls ask of the stream below.
use Rattle.std.specs.Prelude.{◌≡◌, ◌≢◌, ◌⊎◌, ℕ}
use Rattle.tcp_edge.specs.declared.wire.IoOutcome.{IoOutcome}
use Rattle.tcp_edge.specs.declared.wire.IoOutcome.TheVariants as outcome
use Rattle.transport.specs.declared.answers.Got.{Got}
use Rattle.transport.specs.declared.answers.Got.TheVariants as got
use Rattle.transport.specs.declared.answers.Put.{Put}
use Rattle.transport.specs.declared.answers.Put.TheVariants as put
use Rattle.transport.specs.declared.counts.Counts.{Counts}
use Rattle.tcp_edge.specs.Outcomes.{got_of, put_of}

-- the stream, how often each answer came, and how often a write was idle
pub record SocketState (W : Type 0) : Type 0 where
  pub wire : W
  pub counts : Counts
  pub refused : ℕ

-- one of which nothing was asked yet
abbrev pub new_socket : {W : Type 0} → W → SocketState W
new_socket wire = record { wire = wire; counts = record { failures = 0; ends = 0; idles = 0 }; refused = 0 }

-- a read answers what one call of the stream came to
pub record Receives {W : Type 0} (receives : W → IoOutcome → W → Type 0) (old : W) (answer : Got) (new : W) : Type 0 where
  pub came_to : IoOutcome
  pub received : receives old came_to new
  pub answered : answer ≡ got_of came_to

-- a write answers what one call of the stream came to
pub record Sends {W : Type 0} (sends : W → IoOutcome → W → Type 0) (refused : ℕ) (old : W) (answer : Put) (new : W) : Type 0 where
  pub came_to : IoOutcome
  pub sent : sends old came_to new
  pub answered : answer ≡ put_of came_to refused

-- a read that waits answers what the first call came to, or, where that was nothing yet, what the second did
abbrev pub ReceivesPatiently : {W : Type 0} → (W → IoOutcome → W → Type 0) → W → Got → W → Type 0
ReceivesPatiently {W} receives old answer new =
    ((answer ≢ got.Idle) × Receives receives old answer new) ⊎ ((between : W) × receives old outcome.NotNow between × Receives receives between answer new)

-- and so does a write that waits
abbrev pub SendsPatiently : {W : Type 0} → (W → IoOutcome → W → Type 0) → ℕ → W → Put → W → Type 0
SendsPatiently {W} sends refused old answer new =
    ((answer ≢ put.Idle) × Sends sends refused old answer new) ⊎ ((between : W) × sends old outcome.NotNow between × Sends sends refused between answer new)

-- a call of a registry leaves a socket's counts as they were, and its stream as that says
abbrev pub KeepsSocket : {W : Type 0} → (W → W → Type 0) → SocketState W → SocketState W → Type 0
KeepsSocket keeps old new = keeps old.wire new.wire × (new.counts ≡ old.counts) × (new.refused ≡ old.refused)

-- and so do two such calls
abbrev pub KeepsSocketTwice : {W : Type 0} → (W → W → Type 0) → SocketState W → SocketState W → Type 0
KeepsSocketTwice {W} keeps old new = ((between : W) × keeps old.wire between × keeps between new.wire) × (new.counts ≡ old.counts) × (new.refused ≡ old.refused)
