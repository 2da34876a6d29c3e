-- What a connection that is served has read and written by any moment of its life.
use Rattle.std.specs.Prelude.{◌≡◌, ◌≢◌, ℕ, List, [], ◌∷◌, Option, Some, None, ⊤}
use Rattle.std.specs.List.{AllByRecursion}
use Rattle.std.specs.Io.KnownBytes.{append_known}
use Rattle.mqtt_wire.specs.Stream.{Begins, FaultAt}
use Rattle.conn_engine.specs.declared.input.Input.{Input}
use Rattle.conn_engine.specs.declared.phase.ConnPhase.TheVariants.{Ended}
use Rattle.conn_laws.specs.Behind.{IsLast}
use Rattle.conn_service.specs.declared.served.Served.TheVariants as served
use Rattle.conn_service.specs.Services.{ServiceState, bytes_of}
use Rattle.conn_service.specs.Acts.{Act, Enters, Leaves, Asks, GivesUp, Others, bytes_read, packets_read, faults_met, packets_sent}

-- the steps took, in order, the packets that the bytes read spell, one after the other (2.1, 4.13); a fault that was met stands in front of the rest,
-- which is what is unread as long as the connection goes on
pub record ReadsItsStream {P T : Type 0} (acts : List Act) (service : ServiceState P T) : Type 0 where
  pub rest : List ℕ
  pub begun : Begins (bytes_read acts) (packets_read acts) rest
  pub faults : AllByRecursion (λ fault. FaultAt fault rest) (faults_met acts)
  pub unread : service.ending ≡ None → service.client.conn.phase ≢ Ended → service.client.unread ≡ record { bytes = rest; fault = None }

-- what the transport took is a beginning of the written forms of the packets that steps said, in their order; what lacks is what waits, as long
-- as the connection has not ended, and nothing where it ended with 0
pub record WritesItsPackets {P T : Type 0} (accepted : T → Option (List ℕ)) (first : T) (acts : List Act) (service : ServiceState P T) : Type 0 where
  pub rest : List ℕ
  pub begun : append_known (accepted service.transport) rest ≡ append_known (accepted first) (bytes_of (packets_sent acts))
  pub waits : service.ending ≡ None → rest ≡ service.outgoing
  pub all : service.ending ≡ Some served.Ended → rest ≡ []

-- an input that ends a connection is its last one
abbrev pub EndsWithLast : List Input → Type 0
EndsWithLast [] = ⊤
EndsWithLast (input ∷ []) = ⊤
EndsWithLast (input ∷ next ∷ rest) = (IsLast input → ⊥) × EndsWithLast (next ∷ rest)

-- a connection that has ended is not read, written or stepped any more, but given up where its last step is missing
abbrev pub IsQuiet : Act → Type 0
IsQuiet (Enters is_open reads) = ⊤
IsQuiet Leaves = ⊤
IsQuiet (Asks is_kicked) = ⊤
IsQuiet (GivesUp now) = ⊤
IsQuiet Others = ⊤
IsQuiet _ = ⊥
