-- The run of a worker goes on, deed by deed.
use Rattle.std.proofs.Common.{◌≡◌, ◌≤◌, ℕ, max, Bool, false, List, [], ◌∷◌, ◌++◌, Option, Some, None, replicate, refl, sym, subst, ap, ◌∙◌, inl, inr, append-nil, append_assoc}
use Rattle.std.specs.List.{slice_get, slice_set}
use Rattle.transport.specs.declared.counts.Counts.{Counts}
use Rattle.group_queue.specs.Ports.{GroupId}
use Rattle.broker_groups.specs.Answers.{Sights}
use Rattle.worker_connections.specs.Handles.{IsUnused}
use Rattle.group_queue.specs.Places.{PlaceState}
use Rattle.conn_service.specs.Services.{ServiceState}
use Rattle.worker_connections.specs.Cells.{InCell, Turns}
use Rattle.worker_connections.specs.declared.cell_outcome.CellOutcome.{CellOutcome}
use Rattle.worker_connections.specs.declared.cell_outcome.CellOutcome.TheVariants.{Vacant, Goes, Ended}
use Rattle.shared_supply.specs.Calls.{Calls}
use Rattle.shared_supply.specs.Waking.{KeepsAtMost, no_wakes, one_called}
use Rattle.shared_supply.specs.Workers.{Worker, Begins, Leaves, draining_if, is_visiting}
use Rattle.worker_connections.specs.declared.served.ServedCounts.{ServedCounts}
use Rattle.worker_connections.specs.Arrivals.{ArrivedState}
use Rattle.worker_connections.specs.PollerCalls.{PollerCall, Close, Wait, HasNoCalls, with_call, closed_after}
use Rattle.worker_connections.specs.Counting.{counted_behind, none_served}
use Rattle.worker_connections.specs.Retiring.{RetiresDue}
use Rattle.worker_connections.specs.Serving.{TakesIn}
use Rattle.worker_connections.specs.Chains.{Deed, Opened, Closed, Allowed, MadeRound, Passed, RetiredDue, Called, Notified, NotifiedAll, Waited, RunState, Makes, MakesAll, HasRunTo, OwesNothing, came_in, came_by}
use Rattle.worker_connections.specs.Sweeping.{sweep_period}

module _ {T : Type 0} (group : ℕ → GroupId) (seen : Sights) (counts : T → Counts) (given accepted : T → Option (List ℕ)) where
  makes_on : (deeds : List (Deed T)) (deed : Deed T) (old mid new : RunState T) → MakesAll group seen counts given accepted deeds old mid → Makes group seen counts given accepted deed mid new
      → MakesAll group seen counts given accepted (deeds ++ deed ∷ []) old new
  makes_on [] deed old mid new first then = (new, subst (λ (state : RunState T). Makes group seen counts given accepted deed state new) first then, refl)
  makes_on (one ∷ deeds) deed old mid new first then = (first.0, first.1, makes_on deeds deed first.0 mid new first.2 then)

  -- one deed more
  pub runs_on : (deed : Deed T) (old new : RunState T) → HasRunTo group seen counts given accepted old → Makes group seen counts given accepted deed old new → HasRunTo group seen counts given accepted new
  runs_on deed old new ran makes = record {
    run = record { first = ran.run.first; deeds = ran.run.deeds ++ deed ∷ []; last = new };
    is = record {
      begun = ran.is.begun;
      made = makes_on ran.run.deeds deed ran.run.first old new (subst (λ (state : RunState T). MakesAll group seen counts given accepted ran.run.deeds ran.run.first state) ran.here ran.is.made) makes;
    };
    here = refl;
  }

module _ {T : Type 0} (group : ℕ → GroupId) (seen : Sights) (counts : T → Counts) (given accepted : T → Option (List ℕ)) (first latest : ℕ) where
  -- none yet
  pub runs_from : (count : ℕ) (supply : Worker) (cells : List (Option (ServiceState PlaceState T))) (received : List (ArrivedState T)) (poller_calls : Option (List (PollerCall T))) → cells ≡ replicate count None → received ≡ []
      → supply.wakes ≡ no_wakes → supply.draining ≡ false → IsUnused supply.ports supply.desk → HasNoCalls poller_calls → latest ≡ 0
      → HasRunTo group seen counts given accepted (record { first = first; supply = supply; cells = cells; received = received; served = none_served; poller_calls = poller_calls; latest = latest })
  runs_from count supply cells received poller_calls free none quiet going unused nothing begins =
      let begun : RunState T = record { first = first; supply = supply; cells = cells; received = received; served = none_served; poller_calls = poller_calls; latest = latest } in
      record {
        run = record { first = begun; deeds = []; last = begun };
        is = record { begun = record { count = count; free = free; none_came = none; none_ended = refl; none_waits = quiet; not_draining = going; no_poller_calls = nothing; none_sent = unused.none_sent; none_called = unused.none_called; not_looked = begins }; made = refl };
        here = refl;
      }

  -- one came
  pub comes : (arrived : ArrivedState T) (supply : Worker) (cells cells' : List (Option (ServiceState PlaceState T))) (received received' : List (ArrivedState T)) (served served' : ServedCounts) (poller_calls poller_calls' : Option (List (PollerCall T)))
      → received' ≡ received ++ arrived ∷ []
      → HasRunTo group seen counts given accepted (record { first = first; supply = supply; cells = cells; received = received; served = served; poller_calls = poller_calls; latest = latest })
      → TakesIn counts given accepted first latest arrived cells served poller_calls cells' served' poller_calls'
      → HasRunTo group seen counts given accepted (record { first = first; supply = supply; cells = cells'; received = received'; served = served'; poller_calls = poller_calls'; latest = latest })
  comes arrived supply cells cells' received received' served served' poller_calls poller_calls' more ran (inl opened) =
      runs_on group seen counts given accepted (Opened arrived opened.0 latest) _ _ ran
      (opened.1.0, opened.1.1, opened.1.2, λ i. record { first = first; supply = supply; cells = cells'; received = more i; served = opened.2 i; poller_calls = opened.1.4 i; latest = latest }, refl)
  comes arrived supply cells cells' received received' served served' poller_calls poller_calls' more ran (inr refused) =
      runs_on group seen counts given accepted (Closed arrived refused.0.1.1) _ _ ran
      (refused.0.1.0, refused.0.1.2, λ i. record { first = first; supply = supply; cells = refused.0.0 i; received = more i; served = refused.1 i; poller_calls = refused.0.1.3 i; latest = latest })

  -- the connection in a cell went on by a round
  goes : (supply supply' : Worker) (cells cells' : List (Option (ServiceState PlaceState T))) (received : List (ArrivedState T)) (served served' : ServedCounts) (poller_calls poller_calls' : Option (List (PollerCall T))) (cell : ℕ)
      (before after : Option (ServiceState PlaceState T)) (cell_outcome : CellOutcome T) → slice_get cells cell ≡ Some before → cells' ≡ slice_set cells cell after
      → Turns (Calls group seen) Begins Leaves is_visiting (λ (p : PlaceState). p.group) counts given accepted latest before supply cell_outcome after supply'
      → served' ≡ counted_behind cell_outcome served → poller_calls' ≡ closed_after cell cell_outcome poller_calls
      → (deed : Deed T) × Makes group seen counts given accepted deed (record { first = first; supply = supply; cells = cells; received = received; served = served; poller_calls = poller_calls; latest = latest })
      (record { first = first; supply = supply'; cells = cells'; received = received; served = served'; poller_calls = poller_calls'; latest = latest })
  goes supply supply' cells cells' received served served' poller_calls poller_calls' cell None after cell_outcome has is made counted_is closed_is =
      let same : served' ≡ served = subst (λ (t : CellOutcome T). served' ≡ counted_behind t served) made.0 counted_is in
      let unclosed : poller_calls' ≡ poller_calls = subst (λ (t : CellOutcome T). poller_calls' ≡ closed_after cell t poller_calls) made.0 closed_is in (
        Passed cell,
        (
          record { before = None; after = after; has = has; becomes = (refl, made.1); is = is },
          λ i. record { first = first; supply = made.2 i; cells = cells'; received = received; served = same i; poller_calls = unclosed i; latest = latest },
        ),
      )
  goes supply supply' cells cells' received served served' poller_calls poller_calls' cell (Some service) after Vacant has is made counted_is closed_is = absurd made.2
  goes supply supply' cells cells' received served served' poller_calls poller_calls' cell (Some service) after (Goes round) has is made counted_is closed_is = (
    MadeRound cell latest made.1.led.acts None,
    (
      record {
        before = Some service;
        after = after;
        has = has;
        becomes = record { service = service; here = refl; behind = made.0; round = made.1; acts_are = refl; leaves = made.2.1; closes = closed_is };
        is = is;
      },
      λ i. record { first = first; supply = supply'; cells = cells'; received = received; served = counted_is i; poller_calls = poller_calls'; latest = latest },
      refl,
    ),
  )
  goes supply supply' cells cells' received served served' poller_calls poller_calls' cell (Some service) after (Ended how transport) has is made counted_is closed_is = (
    MadeRound cell latest made.1.led.acts (Some how),
    (
      record {
        before = Some service;
        after = after;
        has = has;
        becomes = record {
          service = service;
          here = refl;
          behind = made.0;
          round = made.1;
          acts_are = refl;
          leaves = (made.2.0.0, made.2.0.1, made.2.2);
          closes = subst (λ (t : T). poller_calls' ≡ with_call (Close (Some cell) t) poller_calls) made.2.1 closed_is;
        };
        is = is;
      },
      λ i. record { first = first; supply = supply'; cells = cells'; received = received; served = counted_is i; poller_calls = poller_calls'; latest = latest },
      refl,
    ),
  )

  -- so many messages were allowed, and then it went on by a round
  pub outcome : (supply allowed supply' : Worker) (most : ℕ) (cells cells' : List (Option (ServiceState PlaceState T))) (received : List (ArrivedState T)) (served served' : ServedCounts) (poller_calls poller_calls' : Option (List (PollerCall T))) (cell : ℕ)
      (cell_outcome : CellOutcome T) → HasRunTo group seen counts given accepted (record { first = first; supply = supply; cells = cells; received = received; served = served; poller_calls = poller_calls; latest = latest })
      → allowed ≡ record supply { allowance = most }
      → InCell cells cell (λ before after. Turns (Calls group seen) Begins Leaves is_visiting (λ (p : PlaceState). p.group) counts given accepted latest before allowed cell_outcome after supply') cells'
      → served' ≡ counted_behind cell_outcome served → poller_calls' ≡ closed_after cell cell_outcome poller_calls
      → HasRunTo group seen counts given accepted (record { first = first; supply = supply'; cells = cells'; received = received; served = served'; poller_calls = poller_calls'; latest = latest })
  outcome supply allowed supply' most cells cells' received served served' poller_calls poller_calls' cell cell_outcome ran allows made counted_is closed_is =
      let deed = goes allowed supply' cells cells' received served served' poller_calls poller_calls' cell made.before made.after cell_outcome made.has made.is made.becomes counted_is closed_is in
      runs_on group seen counts given accepted deed.0 _ _
      (runs_on group seen counts given accepted (Allowed most) _ (record { first = first; supply = allowed; cells = cells; received = received; served = served; poller_calls = poller_calls; latest = latest }) ran
      (λ i. record { first = first; supply = allows i; cells = cells; received = received; served = served; poller_calls = poller_calls; latest = latest })) deed.1

  -- the sessions whose time was over were retired
  pub retires_on : (supply supply' : Worker) (cells : List (Option (ServiceState PlaceState T))) (received : List (ArrivedState T)) (served : ServedCounts) (poller_calls : Option (List (PollerCall T)))
      → RetiresDue group seen supply latest supply'
      → HasRunTo group seen counts given accepted (record { first = first; supply = supply; cells = cells; received = received; served = served; poller_calls = poller_calls; latest = latest })
      → HasRunTo group seen counts given accepted (record { first = first; supply = supply'; cells = cells; received = received; served = served; poller_calls = poller_calls; latest = latest })
  retires_on supply supply' cells received served poller_calls retires ran = runs_on group seen counts given accepted (RetiredDue latest) _ _ ran (retires, refl, refl)

  -- it was called for a message of this group
  pub called_on : (slot : ℕ) (supply supply' : Worker) (cells : List (Option (ServiceState PlaceState T))) (received : List (ArrivedState T)) (served : ServedCounts) (poller_calls : Option (List (PollerCall T)))
      → supply' ≡ record supply { wakes = one_called slot supply.wakes }
      → HasRunTo group seen counts given accepted (record { first = first; supply = supply; cells = cells; received = received; served = served; poller_calls = poller_calls; latest = latest })
      → HasRunTo group seen counts given accepted (record { first = first; supply = supply'; cells = cells; received = received; served = served; poller_calls = poller_calls; latest = latest })
  called_on slot supply supply' cells received served poller_calls is ran =
      runs_on group seen counts given accepted (Called slot) _ _ ran (λ i. record { first = first; supply = is i; cells = cells; received = received; served = served; poller_calls = poller_calls; latest = latest })

  -- it told others of the messages that are more than these
  pub told_on : (most others : List ℕ) (supply supply' : Worker) (cells : List (Option (ServiceState PlaceState T))) (received : List (ArrivedState T)) (served : ServedCounts) (poller_calls : Option (List (PollerCall T)))
      → KeepsAtMost most others supply.wakes supply'.wakes → supply' ≡ record supply { wakes = supply'.wakes }
      → HasRunTo group seen counts given accepted (record { first = first; supply = supply; cells = cells; received = received; served = served; poller_calls = poller_calls; latest = latest })
      → HasRunTo group seen counts given accepted (record { first = first; supply = supply'; cells = cells; received = received; served = served; poller_calls = poller_calls; latest = latest })
  told_on most others supply supply' cells received served poller_calls keeps is ran =
      runs_on group seen counts given accepted (Notified most others) _ _ ran (keeps, λ i. record { first = first; supply = is i; cells = cells; received = received; served = served; poller_calls = poller_calls; latest = latest })

  -- it told others all that they wait for
  pub told_all_on : (supply supply' : Worker) (cells : List (Option (ServiceState PlaceState T))) (received : List (ArrivedState T)) (served : ServedCounts) (poller_calls : Option (List (PollerCall T)))
      → supply' ≡ record supply { wakes = no_wakes }
      → HasRunTo group seen counts given accepted (record { first = first; supply = supply; cells = cells; received = received; served = served; poller_calls = poller_calls; latest = latest })
      → HasRunTo group seen counts given accepted (record { first = first; supply = supply'; cells = cells; received = received; served = served; poller_calls = poller_calls; latest = latest })
  told_all_on supply supply' cells received served poller_calls is ran =
      runs_on group seen counts given accepted NotifiedAll _ _ ran (λ i. record { first = first; supply = is i; cells = cells; received = received; served = served; poller_calls = poller_calls; latest = latest })

  -- it waited at its poller, which told its moment, and whether it drains
  pub waits_on : (at_most now latest' : ℕ) (drains : Bool) (supply : Worker) (cells : List (Option (ServiceState PlaceState T))) (received : List (ArrivedState T)) (served : ServedCounts) (poller_calls poller_calls' : Option (List (PollerCall T)))
      → OwesNothing (record { first = first; supply = supply; cells = cells; received = received; served = served; poller_calls = poller_calls; latest = latest }) → at_most ≤ sweep_period → poller_calls' ≡ with_call (Wait at_most now drains) poller_calls → latest' ≡ max latest now
      → HasRunTo group seen counts given accepted (record { first = first; supply = supply; cells = cells; received = received; served = served; poller_calls = poller_calls; latest = latest })
      → HasRunTo group seen counts given accepted (record { first = first; supply = draining_if drains supply; cells = cells; received = received; served = served; poller_calls = poller_calls'; latest = latest' })
  waits_on at_most now latest' drains supply cells received served poller_calls poller_calls' owes in_time waits looks ran =
      runs_on group seen counts given accepted (Waited at_most now drains) _ _ ran
      (owes, in_time, λ i. record { first = first; supply = draining_if drains supply; cells = cells; received = received; served = served; poller_calls = waits i; latest = looks i })

  -- its poller closed nothing and did not wait, and its moment is the same
  pub stays_at : (latest' : ℕ) (supply : Worker) (cells : List (Option (ServiceState PlaceState T))) (received : List (ArrivedState T)) (served : ServedCounts) (poller_calls poller_calls' : Option (List (PollerCall T)))
      → poller_calls' ≡ poller_calls → latest' ≡ latest
      → HasRunTo group seen counts given accepted (record { first = first; supply = supply; cells = cells; received = received; served = served; poller_calls = poller_calls; latest = latest })
      → HasRunTo group seen counts given accepted (record { first = first; supply = supply; cells = cells; received = received; served = served; poller_calls = poller_calls'; latest = latest' })
  stays_at latest' supply cells received served poller_calls poller_calls' same still ran =
      subst (λ (state : RunState T). HasRunTo group seen counts given accepted state) {y = record { first = first; supply = supply; cells = cells; received = received; served = served; poller_calls = poller_calls'; latest = latest' }}
      (λ i. record { first = first; supply = supply; cells = cells; received = received; served = served; poller_calls = sym same i; latest = sym still i }) ran

module _ {T : Type 0} (group : ℕ → GroupId) (seen : Sights) (counts : T → Counts) (given accepted : T → Option (List ℕ)) where
  -- each connection that came stands in the list of deeds, once, and nothing else does
  came_one : (deed : Deed T) (old new : RunState T) → Makes group seen counts given accepted deed old new → new.received ≡ old.received ++ came_in deed
  came_one (Opened arrived cell now) old new does = ap (λ (s : RunState T). s.received) does.3
  came_one (Closed arrived number) old new does = ap (λ (s : RunState T). s.received) does.2
  came_one (Allowed most) old new does = ap (λ (s : RunState T). s.received) does ∙ sym (append-nil old.received)
  came_one (MadeRound cell now acts how) old new does = ap (λ (s : RunState T). s.received) does.1 ∙ sym (append-nil old.received)
  came_one (Passed cell) old new does = ap (λ (s : RunState T). s.received) does.1 ∙ sym (append-nil old.received)
  came_one (RetiredDue now) old new does = ap (λ (s : RunState T). s.received) does.1 ∙ sym (append-nil old.received)
  came_one (Called slot) old new does = ap (λ (s : RunState T). s.received) does ∙ sym (append-nil old.received)
  came_one (Notified most others) old new does = ap (λ (s : RunState T). s.received) does.1 ∙ sym (append-nil old.received)
  came_one NotifiedAll old new does = ap (λ (s : RunState T). s.received) does ∙ sym (append-nil old.received)
  came_one (Waited at_most now drains) old new does = ap (λ (s : RunState T). s.received) does.2 ∙ sym (append-nil old.received)

  pub came_all : (deeds : List (Deed T)) (old new : RunState T) → MakesAll group seen counts given accepted deeds old new → new.received ≡ old.received ++ came_by deeds
  came_all [] old new does = ap (λ (s : RunState T). s.received) does ∙ sym (append-nil old.received)
  came_all (deed ∷ deeds) old new does =
      came_all deeds does.0 new does.2 ∙ ap (λ (l : List (ArrivedState T)). l ++ came_by deeds) (came_one deed old does.0 does.1) ∙ append_assoc old.received (came_in deed) (came_by deeds)
