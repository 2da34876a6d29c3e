-- The acts of a connection towards its transport alone.
use Rattle.std.specs.Prelude.{◌≡◌, ◌≢◌, ◌⊎◌, ℕ, ◌+◌, ◌≤◌, false, List, [], ◌∷◌, ◌++◌, length, Option, Some, None}
use Rattle.std.specs.Io.KnownBytes.{append_known}
use Rattle.transport.specs.declared.counts.Counts.{Counts}
use Rattle.transport.specs.Counting.{after_got, after_put, got_count, put_count}
use Rattle.transport.specs.declared.answers.Got.{Got}
use Rattle.transport.specs.declared.answers.Put.{Put}
use Rattle.conn_engine.specs.declared.phase.ConnPhase.TheVariants.{Ended}
use Rattle.client_table.specs.Streams.{IsRead}
use Rattle.conn_service.specs.declared.served.Served.TheVariants as served
use Rattle.conn_service.specs.Services.{ServiceState, KeepsEnough, patience, most_refused}
use Rattle.conn_service.specs.Acts.{Act, Reads, Writes, Starves, IsStopped, Stalls, Ends}
use Rattle.conn_service.specs.Visits.{Stand, Walks}
use Rattle.conn_service.specs.Moments.{ending_read, ending_write, ends_by, since_write, refused_write, fed_by, kept_by, drained_by, TakesSome}

module _ {T : Type 0} (counts : T → Counts) (given accepted : T → Option (List ℕ)) where
  -- the transport gave these bytes
  pub record Gives (got : Got) (bytes : List ℕ) (old new : T) : Type 0 where
    pub count : length bytes ≡ got_count got
    pub counted : counts new ≡ after_got got (counts old)
    pub given_is : given new ≡ append_known (given old) bytes
    pub accepted_is : accepted new ≡ accepted old

module _ {P T : Type 0} (counts : T → Counts) (given accepted : T → Option (List ℕ)) where
  -- when the transport may be read: all that was read before is answered, and all that was said is written; while the connection waits for its session,
  -- until it keeps enough
  pub record MayRead (service : ServiceState P T) : Type 0 where
    pub going : service.ending ≡ None
    pub not_over : service.client.conn.phase ≢ Ended
    pub not_at_end : service.at_end ≡ false
    pub answered : IsRead service.client
    pub nothing_waits : service.outgoing ≡ []
    pub keeps_little : ¬ KeepsEnough service

  -- one read into a buffer of this size
  pub record ReadsOnce (size : ℕ) (got : Got) (bytes : List ℕ) (old new : ServiceState P T) : Type 0 where
    pub may : MayRead old
    pub gives : Gives counts given accepted got bytes old.transport new.transport
    pub becomes : new ≡ record old {
      client = fed_by got old.client bytes;
      transport = new.transport;
      kept = kept_by got old.client.conn.phase old.kept;
      drained = drained_by got size;
      at_end = ends_by got;
      ending = ending_read got;
    }

  -- one read, for whose bytes there was no memory
  pub record IsStarved (got : Got) (bytes : List ℕ) (old new : ServiceState P T) : Type 0 where
    pub may : MayRead old
    pub gives : Gives counts given accepted got bytes old.transport new.transport
    pub becomes : new ≡ record old { transport = new.transport; ending = Some served.Memory }

  -- one write of what waits, from its front on
  pub record WritesOnce (now : ℕ) (put : Put) (old new : ServiceState P T) : Type 0 where
    pub going : old.ending ≡ None
    pub waits : old.outgoing ≢ []
    pub taken : List ℕ
    pub front : old.outgoing ≡ taken ++ new.outgoing
    pub count : length taken ≡ put_count put
    pub some : TakesSome put
    pub counted : counts new.transport ≡ after_put put (counts old.transport)
    pub given_is : given new.transport ≡ given old.transport
    pub accepted_is : accepted new.transport ≡ append_known (accepted old.transport) taken
    pub becomes : new ≡ record old { transport = new.transport; outgoing = new.outgoing; since = since_write put now old.since; refused = refused_write put old.refused; ending = ending_write put }

  -- the crossing let nothing pass
  pub record IsHeldUp (old new : ServiceState P T) : Type 0 where
    pub going : old.ending ≡ None
    pub waits : old.outgoing ≢ []
    pub becomes : new ≡ record old { ending = Some served.NoCrossing }

  -- the transport took nothing of what waits, for too long, or in too many writes, each of which waited: and it was written to since
  pub record IsStalled (now : ℕ) (old new : ServiceState P T) : Type 0 where
    pub going : old.ending ≡ None
    pub waits : old.outgoing ≢ []
    pub asked : 1 ≤ old.refused
    pub long : (old.since + patience old.client.conn.phase ≤ now) ⊎ (most_refused ≤ old.refused)
    pub becomes : new ≡ record old { ending = Some served.Stalled }

  -- the connection has ended, and all that it said is written
  pub record IsEnded (old new : ServiceState P T) : Type 0 where
    pub going : old.ending ≡ None
    pub over : old.client.conn.phase ≡ Ended
    pub nothing_waits : old.outgoing ≡ []
    pub becomes : new ≡ record old { ending = Some served.Ended }

  -- what an act makes of the connection, where no supply is asked
  abbrev pub DoesAtEdge : Act → ServiceState P T → ServiceState P T → Type 0
  DoesAtEdge (Reads size got bytes) old new = ReadsOnce size got bytes old new
  DoesAtEdge (Starves got bytes) old new = IsStarved got bytes old new
  DoesAtEdge (Writes now put) old new = WritesOnce now put old new
  DoesAtEdge IsStopped old new = IsHeldUp old new
  DoesAtEdge (Stalls now) old new = IsStalled now old new
  DoesAtEdge Ends old new = IsEnded old new
  DoesAtEdge _ old new = ⊥

  -- these acts, one after the other
  abbrev pub DoesAllAtEdge : List Act → ServiceState P T → ServiceState P T → Type 0
  DoesAllAtEdge [] old new = new ≡ old
  DoesAllAtEdge (act ∷ acts) old new = (between : ServiceState P T) × DoesAtEdge act old between × DoesAllAtEdge acts between new

  -- some acts towards the transport, at this moment and from this stand, lead from the one to the other
  pub record LeadsAtEdge (now : ℕ) (stand : Stand) (old new : ServiceState P T) : Type 0 where
    pub acts : List Act
    pub does : DoesAllAtEdge acts old new
    pub walks : Walks now stand acts stand
