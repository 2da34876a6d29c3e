-- A listener as contracts see it, and what the system's refusals mean.
use Rattle.std.specs.Prelude.{◌≡◌, ◌≢◌, ℕ, ◌<◌, Bool, false, ◌||◌, if◌then◌else◌, ℤ, pos, Option, Some, None}
use Rattle.std.specs.Ordering.{int_eq}
use Rattle.std.specs.IoError.{error_kind, raw_os_error}
use Rattle.std_io.specs.declared.io.error.Error.{Error}
use Rattle.std_io.specs.declared.io.kind.ErrorKind.{ErrorKind}
use Rattle.std_io.specs.declared.io.kind.ErrorKind.TheVariants as kind
use Rattle.mio.specs.declared.net.listener.TcpListener.{TcpListener}
use Rattle.tcp_edge.specs.declared.source.ListenError.{ListenError}
use Rattle.tcp_edge.specs.declared.source.ListenError.TheVariants as refusal
use Rattle.transport.specs.declared.answers.Arrival.{Arrival}
use Rattle.transport.specs.declared.answers.Arrival.TheVariants as arrival
use Rattle.transport.specs.declared.counts.Tally.{Tally}
use Rattle.tcp_edge.specs.Sockets.{SocketState, new_socket}

-- the listener of the system's, its port, and how often it failed and gave
pub record SourceState : Type 0 where
  pub listener : TcpListener
  pub port : ℕ
  pub tally : Tally

-- the port that was asked for, or some port where none was
abbrev pub IsPortFor : ℕ → ℕ → Type 0
IsPortFor asked port = (0 < port) × (asked ≢ 0 → port ≡ asked)

-- there is no descriptor left, in all (ENFILE, 23) or for this process (EMFILE, 24)
abbrev pub lacks_descriptors : Option ℤ → Bool
lacks_descriptors (Some code) = int_eq code (pos 23) || int_eq code (pos 24)
lacks_descriptors None = false

-- why a listener was not opened
abbrev pub refusal_of : ErrorKind → ListenError
refusal_of kind.AddrInUse = refusal.PortInUse
refusal_of kind.AddrNotAvailable = refusal.AddressElsewhere
refusal_of kind.PermissionDenied = refusal.NotPermitted
refusal_of _ = refusal.System

abbrev pub open_error_of : Error → ListenError
open_error_of error = if lacks_descriptors (raw_os_error error) then refusal.TooFewDescriptors else refusal_of (error_kind error)

-- the system is short of something for now, by the number of its error: of memory (ENOMEM, 12), of descriptors (ENFILE, 23, and EMFILE, 24), or
-- of buffers (ENOBUFS, 105)
abbrev pub is_short : Option ℤ → Bool
is_short (Some code) = int_eq code (pos 12) || int_eq code (pos 23) || int_eq code (pos 24) || int_eq code (pos 105)
is_short None = false

-- what it means that no connection was accepted; of one that is gone, nothing
abbrev pub refused_arrival : {T : Type 0} → ErrorKind → Option (Arrival T)
refused_arrival kind.WouldBlock = Some arrival.Idle
refused_arrival kind.Interrupted = None
refused_arrival kind.ConnectionAborted = None
refused_arrival _ = Some arrival.Failed

-- where the system is short of something, a listener is idle
abbrev pub passed_over : {T : Type 0} → Error → Option (Arrival T)
passed_over error = if is_short (raw_os_error error) then Some arrival.Idle else refused_arrival (error_kind error)

-- of a connection that came, nothing was asked yet
abbrev pub IsFresh : {W : Type 0} → Arrival (SocketState W) → Type 0
IsFresh (arrival.Came socket) = socket ≡ new_socket socket.wire
IsFresh arrival.Idle = Unit {0}
IsFresh arrival.End = ⊥
IsFresh arrival.Failed = Unit {0}
