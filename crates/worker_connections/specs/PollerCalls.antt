-- The calls that a worker makes of its poller: it has transports watched, closes them, and waits.
use Rattle.std.specs.Prelude.{◌≡◌, ℕ, Bool, List, [], ◌∷◌, ◌++◌, Option, Some, None, IfSome, option_map}
use Rattle.conn_service.specs.declared.served.Served.{Served}
use Rattle.worker_connections.specs.declared.cell_outcome.CellOutcome.{CellOutcome}
use Rattle.worker_connections.specs.declared.cell_outcome.CellOutcome.TheVariants as turns

-- a call of a poller
pub data PollerCall (T : Type 0) : Type 0 where
  -- it watches a transport from now on, which is as it is here, under this number; or it does not
  Register : (number : Option ℕ) → (transport : T) → PollerCall T
  -- it closed a transport, which was as it is here, and lets go of this number, under which it was watched, if it was
  Close : (number : Option ℕ) → (transport : T) → PollerCall T
  -- it waited for so many milliseconds at most, and told this moment after that, and whether the worker drains from then on
  Wait : (at_most now : ℕ) → (drains : Bool) → PollerCall T

-- this call too, where it is known which were made
abbrev pub with_call : {T : Type 0} → PollerCall T → Option (List (PollerCall T)) → Option (List (PollerCall T))
with_call poller_call poller_calls = option_map (λ those. those ++ poller_call ∷ []) poller_calls

-- this transport, which is watched under the number of its cell, was closed too, where its connection ended
abbrev pub closed_if : {T : Type 0} → ℕ → Option Served → T → Option (List (PollerCall T)) → Option (List (PollerCall T))
closed_if cell None transport poller_calls = poller_calls
closed_if cell (Some how) transport poller_calls = with_call (Close (Some cell) transport) poller_calls

-- after a round, which may have ended the connection in a cell
abbrev pub closed_after : {T : Type 0} → ℕ → CellOutcome T → Option (List (PollerCall T)) → Option (List (PollerCall T))
closed_after cell turns.Vacant poller_calls = poller_calls
closed_after cell (turns.Goes round) poller_calls = poller_calls
closed_after cell (turns.Ended how transport) poller_calls = with_call (Close (Some cell) transport) poller_calls

-- none was made yet, where that is known
abbrev pub HasNoCalls : {T : Type 0} → Option (List (PollerCall T)) → Type 0
HasNoCalls poller_calls = IfSome poller_calls (λ those. those ≡ [])
