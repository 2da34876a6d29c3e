-- A reactor as contracts see it, and what each of its calls changes.
use Rattle.std.specs.Prelude.{◌≡◌, ℕ, ◌≤◌, ◌+◌, ◌==◌, ◌⊎◌, Bool, true, false, not, ◌||◌, cond, if◌then◌else◌, List, [], ◌∷◌, ◌++◌, length, set, filter_map, position, replicate, slice_get, Option, Some, None, Result, Ok, Err}
use Rattle.std.specs.List.{list_any}
use Rattle.std.specs.IoError.{raw_os_error}
use Rattle.std_io.specs.declared.io.error.Error.{Error}
use Rattle.mio.specs.declared.event.event.Event.{Event}
use Rattle.mio.specs.Event as event
use Rattle.tcp_edge.specs.declared.reactor.Ready.{Ready}
use Rattle.tcp_edge.specs.declared.reactor.ReactorError.{ReactorError}
use Rattle.tcp_edge.specs.declared.reactor.ReactorError.TheVariants.{Full, TooFewDescriptors, System}
use Rattle.tcp_edge.specs.Sources.{lacks_descriptors}

-- how many sources are watched at most
abbrev pub most_sources : ℕ
most_sources = 1025

-- which numbers are taken, and what the last wait told that was not taken up
pub record ReactorState : Type 0 where
  pub seats : List Bool
  pub ready : List Ready

-- whether a number is taken
abbrev pub taken_at : Option Bool → Bool
taken_at (Some taken) = taken
taken_at None = false

abbrev pub is_taken : List Bool → ℕ → Bool
is_taken seats number = taken_at (slice_get seats number)

abbrev pub IsSeated : List Bool → ℕ → Type 0
IsSeated seats number = is_taken seats number ≡ true

-- no number is taken, and nothing was told
abbrev pub AreFree : ReactorState → Type 0
AreFree reactor = reactor ≡ record { seats = replicate most_sources false; ready = [] }

-- the event of the alarm
abbrev pub is_alarm : Event → Bool
is_alarm e = (event.event_token e).0 == 1025

-- what an event tells: of a number that is not taken, nothing
abbrev pub ready_of : Event → Ready
ready_of e = record {
  number = (event.event_token e).0;
  readable = event.is_readable e || event.is_read_closed e || event.is_error e;
  writable = event.is_writable e || event.is_write_closed e;
  closed = event.is_read_closed e || event.is_error e;
}

abbrev pub tell : List Bool → Event → Option Ready
tell seats e = cond (is_taken seats (event.event_token e).0) (Some (ready_of e)) None

-- what events tell, in their order
abbrev pub readies : List Bool → List Event → List Ready
readies seats events = filter_map (tell seats) events

-- why a reactor was not opened
abbrev pub reactor_error_of : Error → ReactorError
reactor_error_of error = if lacks_descriptors (raw_os_error error) then TooFewDescriptors else System

-- a registration takes the least number that is free, where there is one and the system takes it; else nothing changes
abbrev pub Registers : ReactorState → Result ℕ ReactorError → ReactorState → Type 0
Registers old (Ok number) new = (position not old.seats ≡ Some number) × (new ≡ record { seats = set old.seats number true; ready = old.ready })
Registers old (Err error) new = (new ≡ old) × (((error ≡ Full) × (position not old.seats ≡ None)) ⊎ ((error ≡ System) × (number : ℕ) × (position not old.seats ≡ Some number)))

-- the number is free from then on
abbrev pub LetsGo : ℕ → ReactorState → ReactorState → Type 0
LetsGo number old new = new ≡ record { seats = set old.seats number false; ready = old.ready }

-- a wait tells what some events tell; where it failed, nothing
pub record Tells (old : ReactorState) (woken : Bool) (new : ReactorState) : Type 0 where
  pub events : List Event
  pub few : length events ≤ most_sources + 1
  pub rang : woken ≡ list_any is_alarm events
  pub told : new.ready ≡ readies old.seats events

abbrev pub Waits : ReactorState → Result Bool ReactorError → ReactorState → Type 0
Waits old (Ok woken) new = (new.seats ≡ old.seats) × Tells old woken new
Waits old (Err error) new = (error ≡ System) × (new ≡ record { seats = old.seats; ready = [] })

-- the last one is taken up
abbrev pub Takes : ReactorState → Option Ready → ReactorState → Type 0
Takes old (Some one) new = (new.seats ≡ old.seats) × (old.ready ≡ new.ready ++ one ∷ [])
Takes old None new = (old.ready ≡ []) × (new ≡ old)
