-- A connection on its way to a worker, and as the worker watches it.
use Rattle.std.specs.Prelude.{◌≡◌, ℕ, List, Option}
use Rattle.transport.specs.declared.counts.Counts.{Counts}
use Rattle.conn_rules.specs.declared.client_limits.ClientLimits.{ClientLimits}
use Rattle.conn_engine.specs.declared.phase.Opening.{Opening}

-- its transport, and what its client is granted at most
pub record ArrivedState (T : Type 0) : Type 0 where
  pub transport : T
  pub limits : ClientLimits

-- how it is opened at a moment
abbrev pub opening_at : {T : Type 0} → ℕ → ArrivedState T → Opening
opening_at now arrived = record { at = now; limits = arrived.limits }

-- a transport that the system watches from now on, and of which nothing was asked for that
pub record IsWatched {T : Type 0} (counts : T → Counts) (given accepted : T → Option (List ℕ)) (transport watched : T) : Type 0 where
  pub counts_are : counts watched ≡ counts transport
  pub given_is : given watched ≡ given transport
  pub accepted_is : accepted watched ≡ accepted transport
