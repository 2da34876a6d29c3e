-- What the rounds of a worker's run do for the sessions of its connections: what is handed out is what is sent, and what is settled is what a PUBACK came for (3.3, 3.4, 4.4 and 4.9).
use Rattle.std.specs.Prelude.{◌≡◌, ℕ, List, ◌∷◌, ◌++◌, Option}
use Rattle.transport.specs.declared.counts.Counts.{Counts}
use Rattle.group_queue.specs.Ports.{GroupId}
use Rattle.group_queue.specs.Places.{PlaceState}
use Rattle.broker_groups.specs.Answers.{Sights}
use Rattle.conn_laws.specs.Transcripts.{IsNotEnding}
use Rattle.conn_service.specs.Acts.{Act}
use Rattle.conn_service.specs.Services.{ServiceState}
use Rattle.conn_service.specs.Sessions.{TellsItsSession}
use Rattle.shared_supply.specs.Calls.{Calls}
use Rattle.shared_supply.specs.Workers.{Worker}
use Rattle.worker_connections.specs.Chains.{Deed, Makes, MakesAll, Run, RunState}
use Rattle.worker_connections.specs.EachAct.{EachActOf}

module _ {T : Type 0} (group : ℕ → GroupId) (seen : Sights) where
  -- the session of the connection is not ending, and a step adds to its transcript
  abbrev pub TellsSession : Act → ServiceState PlaceState T → Worker → ServiceState PlaceState T → Worker → Type 0
  TellsSession act old supply new supply' = IsNotEnding old.client.conn.phase × TellsItsSession (Calls group seen) act old supply new supply'

module _ {T : Type 0} (group : ℕ → GroupId) (seen : Sights) (counts : T → Counts) (given accepted : T → Option (List ℕ)) where
  -- **What is handed out is what is sent, and a fate comes of a PUBACK**, at each act of the run: the PUBLISH packets that a step sends to a member are its hand-outs, each with
  -- its message, and those for the first time are what its place was handed by that step; it settles just what the PUBACK that it reads acknowledges; and where it ends the
  -- connection, the session is handed in with all that it holds. No session of an open connection is ending
  pub record KeepsSessions (run : Run T) : Type 0 where
    pub kept : (these those : List (Deed T)) (deed : Deed T) (old new : RunState T) → run.deeds ≡ these ++ (deed ∷ those)
        → MakesAll group seen counts given accepted these run.first old → Makes group seen counts given accepted deed old new
        → EachActOf group seen counts given accepted (TellsSession group seen) deed old new
