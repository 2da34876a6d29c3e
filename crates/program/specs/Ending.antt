-- How the program ends: its status, and what then stands in its output and on its error output (profile).
use Rattle.std.specs.Prelude.{◌≡◌, ◌⊎◌, ℕ, List, Option, Result, Ok, Err, IfOk, IfSome, IsErr, IsErrAnd, string_bytes}
use Rattle.std.specs.Io.KnownBytes.{Appends, IsAtEnd, Keeps}
use Rattle.users.specs.Table.{UserTable}
use Rattle.conn_rules.specs.declared.client_limits.ClientLimits.{ClientLimits}
use Rattle.conn_rules.specs.declared.setup.Setup.{Setup}
use Rattle.arguments.specs.declared.command.Request.{Request}
use Rattle.arguments.specs.declared.command.Request.TheVariants.{Solo, Drive, Serve, HashPassword}
use Rattle.arguments.specs.declared.password.PasswordOptions.{PasswordOptions}
use Rattle.arguments.specs.declared.service.ServeOptions.{ServeOptions}
use Rattle.arguments.specs.declared.service.ServeUntil.{ServeUntil}
use Rattle.arguments.specs.declared.service.ServeUntil.TheVariants.{Stdin, Killed}
use Rattle.broker_log.specs.declared.level.Level.{Level}
use Rattle.broker_log.specs.declared.level.Level.TheVariants as levels
use Rattle.broker_log.specs.Lines.{BeginsToLog}
use Rattle.text_io.specs.declared.error.RunError.{RunError}
use Rattle.text_io.specs.declared.error.RunError.TheVariants.{ReadFailed, TooManyReads, WriteFailed, Network, UsersUnread, NoRandomBytes, Memory, TooFewDescriptors, Unfinished, Line, UsersLine}
use Rattle.text_io.specs.Status.{status_of, error_line, IsOfWriting}
use Rattle.text_io.specs.Passing.{Begins}
use Rattle.drive.specs.Scripts.{script_of}
use Rattle.drive.specs.Transcripts.{IsDriveOutput, Writes, BeginsTo}
use Rattle.solo_output.specs.Streams.{stream_of}
use Rattle.solo_output.specs.Output as solo
use Rattle.tcp_server.specs.Serving.{IsServedAt}
use Rattle.program.specs.declared.ending.Exit.{Exit}
use Rattle.program.specs.declared.asking.Asked.{Asked}
use Rattle.program.specs.declared.asking.Asked.TheVariants.{Run, Show, Refuse}
use Rattle.program.specs.Asking.{Asks}
use Rattle.program.specs.Hashing.{IsUserOutput, password_in}
use Rattle.program.specs.Users.{AreUsersFor, LacksUsers}

-- What is known of the bytes that are left to read, of those in the output, and of those on the error output.
pub record Streams : Type 0 where
  pub input : Option (List ℕ)
  pub output : Option (List ℕ)
  pub errors : Option (List ℕ)

-- 0 where all was done, and else the status of the error: 3, 4 or 5
abbrev pub status_at : Result (Unit {0}) RunError → ℕ
status_at (Ok done) = 0
status_at (Err error) = status_of error

-- a text was said on the error output, or it was not, since that failed or memory was refused for the text: then a beginning of it stands there
abbrev pub IsSaid : List ℕ → Result (Unit {0}) RunError → Option (List ℕ) → Option (List ℕ) → Type 0
IsSaid text (Ok done) old new = Appends old new text
IsSaid text (Err failure) old new = (IsOfWriting failure ⊎ (failure ≡ Memory)) × Begins old new text

-- on the error output nothing where all was done, and else the line of the error
abbrev pub Tells : Result (Unit {0}) RunError → Result (Unit {0}) RunError → Option (List ℕ) → Option (List ℕ) → Type 0
Tells (Ok done) told old new = (told ≡ Ok tt) × Keeps old new
Tells (Err error) told old new = IsSaid (error_line error) told old new

-- What a command that runs on its input alone wrote: its output where it came to its end, and a beginning of it where the output failed; at
-- every other error nothing, and a line that is named is the first that the command does not take.
abbrev pub Wrote : (List ℕ → Type 0) → (ℕ → Type 0) → Result (Unit {0}) RunError → Option (List ℕ) → Option (List ℕ) → Type 0
Wrote IsOutput IsBadLine (Ok done) old new = Writes IsOutput old new
Wrote IsOutput IsBadLine (Err ReadFailed) old new = Keeps old new
Wrote IsOutput IsBadLine (Err TooManyReads) old new = Keeps old new
Wrote IsOutput IsBadLine (Err (WriteFailed fault)) old new = BeginsTo IsOutput old new
Wrote IsOutput IsBadLine (Err (Network fault)) old new = Keeps old new
Wrote IsOutput IsBadLine (Err UsersUnread) old new = Keeps old new
Wrote IsOutput IsBadLine (Err NoRandomBytes) old new = Keeps old new
Wrote IsOutput IsBadLine (Err Memory) old new = Keeps old new
Wrote IsOutput IsBadLine (Err TooFewDescriptors) old new = Keeps old new
Wrote IsOutput IsBadLine (Err Unfinished) old new = Keeps old new
Wrote IsOutput IsBadLine (Err (Line number)) old new = IsBadLine number × Keeps old new
Wrote IsOutput IsBadLine (Err (UsersLine number)) old new = Keeps old new

-- `solo` and `drive` wrote what they define for the input
abbrev pub WroteSolo : Setup → List ℕ → Result (Unit {0}) RunError → Option (List ℕ) → Option (List ℕ) → Type 0
WroteSolo setup input = Wrote (solo.IsOutputFor setup input) (λ line. stream_of input ≡ Err line)

abbrev pub WroteDrive : Setup → List ℕ → Result (Unit {0}) RunError → Option (List ℕ) → Option (List ℕ) → Type 0
WroteDrive setup input = Wrote (IsDriveOutput setup input) (λ line. script_of input ≡ Err line)

-- `hash-password` wrote the line of a user with the password that is the first line of the input
abbrev pub WroteUser : PasswordOptions → List ℕ → Result (Unit {0}) RunError → Option (List ℕ) → Option (List ℕ) → Type 0
WroteUser password input = Wrote (IsUserOutput password input) (λ line. password_in input ≡ Err line)

-- the limits that were asked for, and these users
abbrev pub limits_of : ServeOptions → Option UserTable → ClientLimits
limits_of service users = record { max_inflight = service.max_inflight; max_expiry = service.max_expiry; max_keep_alive = service.max_keep_alive; users = users }

-- A broker was served at the port, with groups of the capacity, with the workers and the shares that were asked for, and with these limits: what it
-- wrote by how it ended is in the output.
pub record IsServedWith (service : ServeOptions) (limits : ClientLimits) (ended : Result (Unit {0}) RunError) (old new : Option (List ℕ)) : Type 0 where
  pub served : IsServedAt service.port service.capacity service.workers limits service.groups ended old new

-- a broker was served with the limits and the users that were asked for
pub record HasServed (service : ServeOptions) (ended : Result (Unit {0}) RunError) (old new : Option (List ℕ)) : Type 0 where
  pub users : Option UserTable
  pub are_asked_for : AreUsersFor service.users users
  pub served : IsServedWith service (limits_of service users) ended old new

-- A broker was served as was asked for; or the file gave no users, and none was served: nothing was written.
abbrev pub IsServedFor : ServeOptions → Result (Unit {0}) RunError → Option (List ℕ) → Option (List ℕ) → Type 0
IsServedFor service ended old new = HasServed service ended old new ⊎ (IsErrAnd ended (LacksUsers service.users) × Keeps old new)

-- What a broker read of the input, of which this is left. Until standard input ends: it ended with no error only where that had ended. Until it
-- is killed: nothing, and it did not end but with an error.
abbrev pub HasRead : ServeUntil → Result (Unit {0}) RunError → Option (List ℕ) → Option (List ℕ) → Type 0
HasRead Stdin ended input left = IfOk ended (λ done. IsAtEnd left)
HasRead Killed ended input left = Keeps input left × IsErr ended

-- a broker was served as was asked for
pub record Served (service : ServeOptions) (ended : Result (Unit {0}) RunError) (input left old new : Option (List ℕ)) : Type 0 where
  pub written : IsServedFor service ended old new
  pub read : HasRead service.until ended input left

-- what a command did, by how it ended: with this input, of which this is left, and the output before and after
abbrev pub Did : Request → Result (Unit {0}) RunError → Option (List ℕ) → Option (List ℕ) → Option (List ℕ) → Option (List ℕ) → Type 0
Did (Solo setup) ended input left old new = IfSome input (λ given. WroteSolo setup given ended old new)
Did (Drive setup) ended input left old new = IfSome input (λ given. WroteDrive setup given ended old new)
Did (Serve service) ended input left old new = Served service ended input left old new
Did (HashPassword password) ended input left old new = IfSome input (λ given. WroteUser password given ended old new)

-- What a broker's log wrote on the error output: its lines, of which the last may be a beginning, where writing it failed. A log that is off has no line but the one that says that
-- standard input was at its end as the broker began to read it, and none of a broker that is to serve until it is killed.
abbrev pub IsLoggedUnread : Level → Option (List ℕ) → Option (List ℕ) → Type 0
IsLoggedUnread levels.Off old new = new ≡ old
IsLoggedUnread levels.Error old new = BeginsToLog levels.Error old new
IsLoggedUnread levels.Info old new = BeginsToLog levels.Info old new
IsLoggedUnread levels.Debug old new = BeginsToLog levels.Debug old new

abbrev pub IsLoggedFor : ServeUntil → Level → Option (List ℕ) → Option (List ℕ) → Type 0
IsLoggedFor Stdin level old new = BeginsToLog level old new
IsLoggedFor Killed level old new = IsLoggedUnread level old new

-- what a command wrote on the error output before its end was told: a broker what its log has, and the others nothing
abbrev pub HasSaid : Request → Option (List ℕ) → Option (List ℕ) → Type 0
HasSaid (Solo setup) old new = new ≡ old
HasSaid (Drive setup) old new = new ≡ old
HasSaid (Serve service) old new = IsLoggedFor service.until service.log old new
HasSaid (HashPassword password) old new = new ≡ old

-- A command came to its end, or to an error, which is told after what it said.
pub record RunEnds (request : Request) (old new : Streams) (exit : Exit) : Type 0 where
  pub ended : Result (Unit {0}) RunError
  pub did : Did request ended old.input new.input old.output new.output
  pub said : Option (List ℕ)
  pub has_said : HasSaid request old.errors said
  pub told : Tells ended exit.told said new.errors
  pub ends_with : exit.status ≡ status_at ended

-- a text is shown: all of it, or a beginning
abbrev pub Shown : List ℕ → Result (Unit {0}) RunError → Option (List ℕ) → Option (List ℕ) → Type 0
Shown text (Ok done) old new = Appends old new text
Shown text (Err error) old new = IsOfWriting error × Begins old new text

-- A text was shown, or the output failed; nothing was read.
pub record ShowEnds (text : List ℕ) (old new : Streams) (exit : Exit) : Type 0 where
  pub ended : Result (Unit {0}) RunError
  pub read : Keeps old.input new.input
  pub shown : Shown text ended old.output new.output
  pub told : Tells ended exit.told old.errors new.errors
  pub ends_with : exit.status ≡ status_at ended

-- Nothing was read and nothing written but this text on the error output.
pub record NothingBut (text : List ℕ) (told : Result (Unit {0}) RunError) (old new : Streams) : Type 0 where
  pub read : Keeps old.input new.input
  pub written : Keeps old.output new.output
  pub said : IsSaid text told old.errors new.errors

-- The program ends as its words say: a command is run, a text is shown, wrong words are refused with status 2; and where memory was refused
-- before anything was known of them, it says so.
abbrev pub Ends : Result Asked RunError → Streams → Streams → Exit → Type 0
Ends (Ok (Run request)) old new exit = RunEnds request old new exit
Ends (Ok (Show text)) old new exit = ShowEnds (string_bytes text) old new exit
Ends (Ok (Refuse text)) old new exit = NothingBut (string_bytes text) exit.told old new × (exit.status ≡ 2)
Ends (Err error) old new exit = NothingBut (error_line error) exit.told old new × (exit.status ≡ status_of error)

-- The program ends as what its words ask for ends: of words that were read, as texts, or of the error in their place.
abbrev pub EndsAsAsked : {Words Error : Type 0} → Result Words Error → (Words → List (List ℕ)) → Streams → Streams → Exit → Type 0
EndsAsAsked words texts old new exit = (asked : Result Asked RunError) × Asks words texts asked × Ends asked old new exit
