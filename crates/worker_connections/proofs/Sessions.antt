-- Each deed of a worker's run tells the sessions of its connections.
use Rattle.std.proofs.Common.{ℕ, List, [], ◌∷◌, Option, sym, subst}
use Rattle.transport.specs.declared.counts.Counts.{Counts}
use Rattle.group_queue.specs.Ports.{GroupId}
use Rattle.group_queue.specs.Places.{PlaceState}
use Rattle.broker_groups.specs.Answers.{Sights}
use Rattle.conn_service.specs.Acts.{Act}
use Rattle.conn_service.specs.Lives.{DoesAll}
use Rattle.conn_service.specs.Services.{ServiceState}
use Rattle.conn_service.proofs.Sessions.{tells}
use Rattle.shared_supply.specs.Calls.{Calls}
use Rattle.shared_supply.specs.Workers.{Worker, Begins, Leaves, is_visiting}
use Rattle.worker_connections.specs.Chains.{Deed, Opened, Closed, Allowed, MadeRound, Passed, RetiredDue, Called, Notified, NotifiedAll, Waited, IsRun, Makes, Run, RunState}
use Rattle.worker_connections.proofs.Going.{AreGoing, IsGoing, cell_going, going_on, not_ending, run_going}
use Rattle.worker_connections.specs.EachAct.{EachAct, EachActOf}
use Rattle.worker_connections.specs.Sessions.{KeepsSessions, TellsSession}

module _ {T : Type 0} (group : ℕ → GroupId) (seen : Sights) (counts : T → Counts) (given accepted : T → Option (List ℕ)) where
  all_tell : (acts : List Act) (old new : ServiceState PlaceState T) (supply supply' : Worker) → IsGoing old.client.conn.phase
      → DoesAll (Calls group seen) Begins Leaves is_visiting (λ (p : PlaceState). p.group) counts given accepted acts old supply new supply' → EachAct group seen counts given accepted (TellsSession group seen) acts old supply new supply'
  all_tell [] old new supply supply' going does = does
  all_tell (act ∷ acts) old new supply supply' going does = (
    does.0,
    does.1,
    does.2,
    (not_ending old.client.conn.phase going, tells (Calls group seen) Begins Leaves is_visiting (λ (p : PlaceState). p.group) counts given accepted act old does.0 supply does.1 does.2),
    all_tell acts does.0 new does.1 supply' (going_on group seen counts given accepted act old does.0 supply does.1 going does.2) does.3,
  )

  told : (deed : Deed T) (old new : RunState T) → AreGoing group seen counts given accepted old.cells → Makes group seen counts given accepted deed old new
      → EachActOf group seen counts given accepted (TellsSession group seen) deed old new
  told (Opened arrived cell now) old new all does = tt
  told (Closed arrived number) old new all does = tt
  told (Allowed most) old new all does = tt
  told (MadeRound cell now acts how) old new all does =
      let made = does.0 in
      let goes = made.becomes in
      record {
        before = made.before;
        after = made.after;
        has = made.has;
        becomes = (
          goes.service,
          goes.behind,
          goes.here,
          subst (λ (those : List Act). EachAct group seen counts given accepted (TellsSession group seen) those goes.service old.supply goes.behind new.supply) (sym goes.acts_are)
              (all_tell goes.round.led.acts goes.service goes.behind old.supply new.supply
              (cell_going group seen counts given accepted old.cells cell made.before goes.service all made.has goes.here) goes.round.led.does),
          goes.leaves,
        );
        is = made.is;
      }
  told (Passed cell) old new all does = tt
  told (RetiredDue now) old new all does = tt
  told (Called slot) old new all does = tt
  told (Notified most others) old new all does = tt
  told NotifiedAll old new all does = tt
  told (Waited at_most now drains) old new all does = tt

  -- each run does
  pub all_sessions : (run : Run T) → IsRun group seen counts given accepted run → KeepsSessions group seen counts given accepted run
  all_sessions run is = record {
    kept = (λ these those deed old new split made does. told deed old new (run_going group seen counts given accepted these run.first old is.begun made) does);
  }
