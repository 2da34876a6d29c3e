-- What a broker on TCP has written, by how it ended.
use Rattle.std.specs.Prelude.{◌≡◌, ◌⊎◌, ℕ, List, ◌++◌, codes, Option, Result, Ok, Err}
use Rattle.std.specs.Fmt.{decimal}
use Rattle.std.specs.Io.KnownBytes.{Appends, Keeps}
use Rattle.text_io.specs.Passing.{Begins}
use Rattle.text_io.specs.declared.error.DeviceFault.{DeviceFault}
use Rattle.text_io.specs.declared.error.RunError.{RunError}
use Rattle.text_io.specs.declared.error.RunError.TheVariants.{ReadFailed, TooManyReads, WriteFailed, Network, UsersUnread, NoRandomBytes, Memory, TooFewDescriptors, Unfinished, Line, UsersLine}
use Rattle.mqtt_topic.specs.Names.{Share}
use Rattle.conn_rules.specs.declared.client_limits.ClientLimits.{ClientLimits}
use Rattle.tcp_edge.specs.Sources.{IsPortFor}
use Rattle.tcp_server.specs.Reporting.{AreReports, AreReportsAt}

-- the line that is written before the first connection is served
abbrev pub listening_line : ℕ → List ℕ
listening_line port = codes "listening " ++ decimal port ++ codes "\n"

-- the line and the lines of the reports were written, of a broker that ends so
pub record WritesAll (line : List ℕ) (capacity workers : ℕ) (limits : ClientLimits) (given : List Share) (end : Result (Unit {0}) RunError) (old new : Option (List ℕ)) : Type 0 where
  pub text : List ℕ
  pub reports : AreReportsAt end capacity workers limits given text
  pub written : Appends old new (line ++ text)

-- a beginning of that was written
pub record BeginsToWrite (line : List ℕ) (capacity workers : ℕ) (limits : ClientLimits) (given : List Share) (old new : Option (List ℕ)) : Type 0 where
  pub text : List ℕ
  pub reports : AreReports capacity workers limits given text
  pub begun : Begins old new (line ++ text)

-- why no report is written, and what was written then: a beginning of the line; nothing, or the line
abbrev pub EndsUnreported : List ℕ → RunError → Option (List ℕ) → Option (List ℕ) → Type 0
EndsUnreported line ReadFailed old new = ⊥
EndsUnreported line TooManyReads old new = ⊥
EndsUnreported line (WriteFailed fault) old new = Begins old new line
EndsUnreported line (Network fault) old new = ⊥
EndsUnreported line Memory old new = Keeps old new ⊎ Appends old new line
EndsUnreported line TooFewDescriptors old new = Keeps old new
EndsUnreported line Unfinished old new = ⊥
EndsUnreported line (Line number) old new = ⊥
EndsUnreported line UsersUnread old new = ⊥
EndsUnreported line NoRandomBytes old new = ⊥
EndsUnreported line (UsersLine number) old new = ⊥

-- what a broker whose first line is this has written, by how it ended
abbrev pub IsServed : List ℕ → ℕ → ℕ → ClientLimits → List Share → Result (Unit {0}) RunError → Option (List ℕ) → Option (List ℕ) → Type 0
IsServed line capacity workers limits given (Ok done) old new = WritesAll line capacity workers limits given (Ok done) old new
IsServed line capacity workers limits given (Err ReadFailed) old new = WritesAll line capacity workers limits given (Err ReadFailed) old new
IsServed line capacity workers limits given (Err TooManyReads) old new = ⊥
IsServed line capacity workers limits given (Err (WriteFailed fault)) old new = Begins old new line ⊎ BeginsToWrite line capacity workers limits given old new
IsServed line capacity workers limits given (Err (Network fault)) old new = Keeps old new ⊎ WritesAll line capacity workers limits given (Err (Network fault)) old new
IsServed line capacity workers limits given (Err Memory) old new = (Keeps old new ⊎ Appends old new line) ⊎ WritesAll line capacity workers limits given (Err Memory) old new
IsServed line capacity workers limits given (Err TooFewDescriptors) old new = Keeps old new
IsServed line capacity workers limits given (Err Unfinished) old new = WritesAll line capacity workers limits given (Err Unfinished) old new
IsServed line capacity workers limits given (Err (Line number)) old new = ⊥
IsServed line capacity workers limits given (Err UsersUnread) old new = ⊥
IsServed line capacity workers limits given (Err NoRandomBytes) old new = ⊥
IsServed line capacity workers limits given (Err (UsersLine number)) old new = ⊥

-- the same at the port that was asked for, or at any where that is 0; or it was not listened at, and nothing was written
abbrev pub IsServedAt : ℕ → ℕ → ℕ → ClientLimits → List Share → Result (Unit {0}) RunError → Option (List ℕ) → Option (List ℕ) → Type 0
IsServedAt asked capacity workers limits given result old new =
    ((port : ℕ) × IsPortFor asked port × IsServed (listening_line port) capacity workers limits given result old new) ⊎ ((fault : DeviceFault) × (result ≡ Err (Network fault)) × Keeps old new)
