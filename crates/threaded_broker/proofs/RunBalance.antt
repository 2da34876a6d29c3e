-- By any measure of places: what the desk was handed in a worker's run is what it handed out in it, and what the run's calls made of the places.
use Rattle.std.proofs.Common.{◌≡◌, ℕ, ◌+◌, ◌<◌, List, [], ◌∷◌, ◌++◌, replicate, slice_get, get_or, length, Option, Some, None, is_some, cond, refl, sym, ap, subst, ◌∙◌, inl, inr, zero, suc, arith}
use Rattle.std.specs.Prelude.{sum_by, slice_set, count_by}
use Rattle.std.specs.List.{AllByRecursion}
use Rattle.std.proofs.lemmas.List.Sums.{sum_by-append, sum_by-cons, sum_by-set}
use Rattle.std.proofs.lemmas.Option.{get_or_from_slice_get, slice_get_within}
use Rattle.transport.specs.declared.counts.Counts.{Counts}
use Rattle.transport.specs.declared.answers.Got.{Got}
use Rattle.transport.specs.declared.answers.Got.TheVariants as got
use Rattle.mqtt_packet.specs.declared.packet.Packet.{Packet}
use Rattle.group_jobs.specs.Stamps.{Held}
use Rattle.session_desk.specs.Calls.{Call}
use Rattle.group_queue.specs.Ports.{GroupId}
use Rattle.group_queue.specs.Places.{PlaceState}
use Rattle.broker_groups.specs.Answers.{Sights}
use Rattle.conn_supply.specs.declared.reply.Then.{Then}
use Rattle.conn_supply.specs.SupplyCalls.{SupplyCall}
use Rattle.conn_supply.specs.SupplyCalls.SupplyCall.{Kicked}
use Rattle.conn_engine.specs.declared.input.Input.{Input}
use Rattle.conn_engine.specs.declared.input.Input.TheVariants as inputs
use Rattle.conn_engine.specs.declared.phase.ConnPhase.{ConnPhase}
use Rattle.conn_engine.specs.declared.phase.ConnPhase.TheVariants.{Ended}
use Rattle.conn_engine.specs.declared.phase.Opening.{Opening}
use Rattle.conn_laws.specs.Calls.{MakesAll as MakesCalls}
use Rattle.conn_laws.specs.Places.{KeepsPlaces, own_places}
use Rattle.client_table.specs.Clients.{ClientState}
use Rattle.conn_service.specs.Acts.{Act, Enters, Leaves as Left, Asks, Reads, Writes, Steps, Loses, Fails, Starves, IsFull, IsStopped, Stalls, GivesUp, Ends, Others}
use Rattle.conn_service.specs.Lives.{Does}
use Rattle.conn_service.specs.Moments.{fed_by}
use Rattle.conn_service.specs.Services.{ServiceState}
use Rattle.conn_service.specs.declared.served.Served.{Served}
use Rattle.shared_supply.specs.Calls.{Calls}
use Rattle.shared_supply.specs.Workers.{Worker, Begins, Leaves, is_visiting}
use Rattle.worker_connections.specs.Arrivals.{opening_at}
use Rattle.worker_connections.specs.Cells.{Opens}
use Rattle.worker_connections.specs.Chains.{Deed, Opened, Closed, Allowed, MadeRound, Passed, RetiredDue, Called, Notified, NotifiedAll, Waited, IsWholeRun, LeavesCell, Makes, Run, RunState}
use Rattle.worker_connections.specs.RunCalls.{AreOfAct, AreOfActs, AreOfDeed, AreOfDeeds, AreOfFailure, AreOfStep, AreOfLastStep, AreCallsOf}
use Rattle.final_report.specs.DeskPlaces.{worth_if, places_in, places_out}
use Rattle.threaded_broker.specs.Callers.{DeskCallerState}
use Rattle.threaded_broker.proofs.Balance.{AreWithin, Balances, Gains, all_called, all_in, all_lost, all_out, balance_still, own_sum, places_lost}

-- what is read leaves the phase of a connection as it is
fed_phase : (its : Got) (client : ClientState PlaceState) (bytes : List ℕ) → (fed_by its client bytes).conn.phase ≡ client.conn.phase
fed_phase (got.Bytes count) client bytes = refl
fed_phase got.Idle client bytes = refl
fed_phase got.End client bytes = refl
fed_phase got.Failed client bytes = refl

module _ (measure : PlaceState → ℕ) where
  -- what a connection in a phase has
  abbrev has_in : ConnPhase PlaceState → ℕ
  has_in phase = sum_by measure (own_places phase)

  module _ {T : Type 0} where
    abbrev phase_of : ServiceState PlaceState T → ConnPhase PlaceState
    phase_of service = service.client.conn.phase

    -- and what the one in a cell has, where there is one, and those in all cells
    abbrev has_at : Option (ServiceState PlaceState T) → ℕ
    has_at None = 0
    has_at (Some service) = has_in (phase_of service)

    abbrev pub has_all : List (Option (ServiceState PlaceState T)) → ℕ
    has_all cells = sum_by has_at cells

    -- one cell becomes another
    set_cell : (cells cells' : List (Option (ServiceState PlaceState T))) (cell : ℕ) (before after : Option (ServiceState PlaceState T)) → slice_get cells cell ≡ Some before → cells' ≡ slice_set cells cell after
        → has_all cells' + has_at before ≡ has_all cells + has_at after
    set_cell cells cells' cell before after has is =
        let here : get_or cells cell before ≡ before = get_or_from_slice_get cells cell before before has in
        ap (λ (cs : List (Option (ServiceState PlaceState T))). has_all cs + has_at before) is
        ∙ ap (λ (c : Option (ServiceState PlaceState T)). has_all (slice_set cells cell after) + has_at c) (sym here)
        ∙ sum_by-set has_at cells cell after before (slice_get_within cells cell before has)

    free_cells : (cells : List (Option (ServiceState PlaceState T))) (count : ℕ) → cells ≡ replicate count None → has_all cells ≡ 0
    free_cells cells count are = ap has_all are ∙ sums count
      where
        sums : (count : ℕ) → sum_by has_at (replicate count None) ≡ 0
        sums zero = refl
        sums (suc count) = omega (arith, sum_by-cons has_at None (replicate count None), sums count)

    -- where no connection is in a cell
    none_has : (cells : List (Option (ServiceState PlaceState T))) → count_by is_some cells ≡ 0 → has_all cells ≡ 0
    none_has [] none = refl
    none_has (None ∷ cells) none =
        omega (arith, sum_by-cons has_at None cells, none_has cells (omega (arith, none, sum_by-cons (λ (c : Option (ServiceState PlaceState T)). cond (is_some c) 1 0) None cells)))
    none_has (Some service ∷ cells) none = absurd (omega (arith, none, sum_by-cons (λ (c : Option (ServiceState PlaceState T)). cond (is_some c) 1 0) (Some service) cells))

  module _ (gain : SupplyCall PlaceState → ℕ) (group : ℕ → GroupId) (seen : Sights)
      (gains : (call : SupplyCall PlaceState) (before after : Worker) → Calls group seen before call after → Gains measure gain call) where
    -- the calls of a step, where the places of its connection are kept
    step_balances : (calls : List (SupplyCall PlaceState)) (old new : Worker) (before after : List PlaceState) → MakesCalls (Calls group seen) old calls new → KeepsPlaces before calls after → AreWithin old.desk
        → Balances measure old.desk (sum_by measure before) (sum_by measure after) (sum_by gain calls) new.desk
    step_balances calls old new before after made keeps within =
        let all = all_called measure gain group seen calls old new gains made within in (omega (arith, all.0, keeps measure), all.1)

    module _ {T : Type 0} (counts : T → Counts) (given accepted : T → Option (List ℕ)) where
      abbrev slot_of : PlaceState → ℕ
      slot_of place = place.group

      -- what an act makes of its connection and its worker
      abbrev BalancesService : ServiceState PlaceState T → Worker → List (SupplyCall PlaceState) → ServiceState PlaceState T → Worker → Type 0
      BalancesService old supply calls new supply' = Balances measure supply.desk (has_in (phase_of old)) (has_in (phase_of new)) (sum_by gain calls) supply'.desk

      -- one by which nothing is asked
      quiet : (calls : List (SupplyCall PlaceState)) (old new : ServiceState PlaceState T) (supply supply' : Worker) → calls ≡ [] → supply'.desk ≡ supply.desk → phase_of new ≡ phase_of old → AreWithin supply.desk
          → BalancesService old supply calls new supply'
      quiet calls old new supply supply' none same still within =
          subst (λ those. BalancesService old supply those new supply') (sym none)
          (balance_still measure supply.desk supply'.desk (has_in (phase_of old)) (has_in (phase_of new)) same (ap has_in still) within)

      with_calls : (calls those : List (SupplyCall PlaceState)) (old new : ServiceState PlaceState T) (supply supply' : Worker) → calls ≡ those → BalancesService old supply those new supply'
          → BalancesService old supply calls new supply'
      with_calls calls those old new supply supply' are balances = subst (λ cs. BalancesService old supply cs new supply') (sym are) balances

      -- one that ended its connection
      over : (calls : List (SupplyCall PlaceState)) (old new : ServiceState PlaceState T) (supply supply' : Worker) → phase_of new ≡ Ended
          → Balances measure supply.desk (has_in (phase_of old)) 0 (sum_by gain calls) supply'.desk → BalancesService old supply calls new supply'
      over calls old new supply supply' ended balances = subst (λ n. Balances measure supply.desk (has_in (phase_of old)) n (sum_by gain calls) supply'.desk) (sym (ap has_in ended)) balances

      failed : (now : ℕ) (input : Input) (calls : List (SupplyCall PlaceState)) (old new : ServiceState PlaceState T) (supply supply' : Worker) → AreOfFailure group seen now input old supply calls new supply' → AreWithin supply.desk
          → BalancesService old supply calls new supply'
      failed now input calls old new supply supply' asked within =
          let step = asked.0 in
          with_calls calls step.supply_calls old new supply supply' asked.1
          (over step.supply_calls old new supply supply' asked.2 (step_balances step.supply_calls supply supply' (own_places (phase_of old)) [] step.made step.places within))

      stepped : (now : ℕ) (input : Input) (sent : List Packet) (next : Then) (calls : List (SupplyCall PlaceState)) (old new : ServiceState PlaceState T) (supply supply' : Worker)
          → AreOfStep group seen now input sent next old supply calls new supply' → AreWithin supply.desk → BalancesService old supply calls new supply'
      stepped now input sent next calls old new supply supply' asked within =
          let step = asked.0 in
          with_calls calls step.supply_calls old new supply supply' asked.1
          (step_balances step.supply_calls supply supply' (own_places (phase_of old)) (own_places (phase_of new)) step.made step.places within)

      the_last : (now : ℕ) (calls : List (SupplyCall PlaceState)) (old new : ServiceState PlaceState T) (supply supply' : Worker) → AreOfLastStep group seen now old supply calls new supply' → AreWithin supply.desk
          → BalancesService old supply calls new supply'
      the_last now calls old new supply supply' (none, inl asked) within = stepped now inputs.EndOfInput [] asked.0 calls old new supply supply' asked.1 within
      the_last now calls old new supply supply' (none, inr asked) within = failed now inputs.EndOfInput calls old new supply supply' asked within

      -- one at the transport
      at_edge : (calls : List (SupplyCall PlaceState)) (old new : ServiceState PlaceState T) (supply supply' : Worker) → calls ≡ [] → supply' ≡ supply → new.client ≡ old.client → AreWithin supply.desk
          → BalancesService old supply calls new supply'
      at_edge calls old new supply supply' none same client within =
          quiet calls old new supply supply' none (ap (λ (w : Worker). w.desk) same) (ap (λ (c : ClientState PlaceState). c.conn.phase) client) within

      acted : (act : Act) (calls : List (SupplyCall PlaceState)) (old new : ServiceState PlaceState T) (supply supply' : Worker)
          → Does (Calls group seen) Begins Leaves is_visiting slot_of counts given accepted act old supply new supply' → AreOfAct group seen act old supply calls new supply' → AreWithin supply.desk
          → BalancesService old supply calls new supply'
      acted (Enters is_open reads) calls old new supply supply' does none within =
          quiet calls old new supply supply' none does.begun.desk (ap (λ (s : ServiceState PlaceState T). phase_of s) does.becomes) within
      acted Left calls old new supply supply' does none within =
          quiet calls old new supply supply' none (ap (λ (w : Worker). w.desk) does.ended.becomes) (ap (λ (s : ServiceState PlaceState T). phase_of s) does.same) within
      acted (Asks is_kicked) calls old new supply supply' does one within =
          with_calls calls (Kicked old.client.conn.number is_kicked ∷ []) old new supply supply' one
          (step_balances (Kicked old.client.conn.number is_kicked ∷ []) supply supply' (own_places (phase_of old)) (own_places (phase_of new)) (supply', does.asked, refl)
          (λ measure. subst (λ (phase : ConnPhase PlaceState). sum_by measure (own_places (phase_of old)) + 0 ≡ sum_by measure (own_places phase) + 0) (sym (ap (λ (s : ServiceState PlaceState T). phase_of s) does.same)) refl) within)
      acted (Reads size its bytes) calls old new supply supply' does none within =
          quiet calls old new supply supply' none (ap (λ (w : Worker). w.desk) does.same)
          (ap (λ (s : ServiceState PlaceState T). phase_of s) does.does.becomes ∙ fed_phase its old.client bytes) within
      acted (Writes at put) calls old new supply supply' does none within = at_edge calls old new supply supply' none does.same (ap (λ (s : ServiceState PlaceState T). s.client) does.does.becomes) within
      acted (Steps at input sent next) calls old new supply supply' does asked within = stepped at input sent next calls old new supply supply' asked within
      acted (Loses at input sent next) calls old new supply supply' does asked within = stepped at input sent next calls old new supply supply' asked within
      acted (Fails at input) calls old new supply supply' does asked within = failed at input calls old new supply supply' asked within
      acted (Starves its bytes) calls old new supply supply' does none within = at_edge calls old new supply supply' none does.same (ap (λ (s : ServiceState PlaceState T). s.client) does.does.becomes) within
      acted (IsFull at) calls old new supply supply' does asked within = the_last at calls old new supply supply' asked within
      acted IsStopped calls old new supply supply' does none within = at_edge calls old new supply supply' none does.same (ap (λ (s : ServiceState PlaceState T). s.client) does.does.becomes) within
      acted (Stalls at) calls old new supply supply' does none within = at_edge calls old new supply supply' none does.same (ap (λ (s : ServiceState PlaceState T). s.client) does.does.becomes) within
      acted (GivesUp at) calls old new supply supply' does asked within = the_last at calls old new supply supply' asked within
      acted Ends calls old new supply supply' does none within = at_edge calls old new supply supply' none does.same (ap (λ (s : ServiceState PlaceState T). s.client) does.does.becomes) within
      acted Others calls old new supply supply' does asked within = absurd asked

      -- of two lists of calls, one after the other
      both : (calls these those : List (SupplyCall PlaceState)) → calls ≡ these ++ those → sum_by gain calls ≡ sum_by gain these + sum_by gain those
      both calls these those are = ap (sum_by gain) are ∙ sum_by-append gain these those

      all_acted : (acts : List Act) (calls : List (SupplyCall PlaceState)) (old new : ServiceState PlaceState T) (supply supply' : Worker)
          → AreOfActs group seen counts given accepted acts old supply calls new supply' → AreWithin supply.desk → BalancesService old supply calls new supply'
      all_acted [] calls old new supply supply' asked within =
          quiet calls old new supply supply' asked.0 (ap (λ (w : Worker). w.desk) asked.2) (ap (λ (s : ServiceState PlaceState T). phase_of s) asked.1) within
      all_acted (act ∷ acts) calls old new supply supply' (between, mid, these, those, are, does, its, others) within =
          let one = acted act these old between supply mid does its within in
          let rest = all_acted acts those between new mid supply' others one.1 in (
            omega (arith, one.0, rest.0, both calls these those are),
            rest.1,
          )

      -- what a deed makes of its worker
      abbrev BalancesRun : RunState T → List (SupplyCall PlaceState) → RunState T → Type 0
      BalancesRun old calls new = Balances measure old.supply.desk (has_all old.cells) (has_all new.cells) (sum_by gain calls) new.supply.desk

      aside : (calls : List (SupplyCall PlaceState)) (old new : RunState T) → calls ≡ [] → new.supply.desk ≡ old.supply.desk → has_all new.cells ≡ has_all old.cells → AreWithin old.supply.desk → BalancesRun old calls new
      aside calls old new none same has within =
          subst (λ those. BalancesRun old those new) (sym none) (balance_still measure old.supply.desk new.supply.desk (has_all old.cells) (has_all new.cells) same has within)

      opened_has : (number : ℕ) (opening : Opening) (watched : T) (before after : Option (ServiceState PlaceState T)) → Opens number opening watched before after → (has_at before ≡ 0) × (has_at after ≡ 0)
      opened_has number opening watched before None opens = absurd opens.1
      opened_has number opening watched before (Some service) opens = (ap has_at opens.0, ap (λ (s : ServiceState PlaceState T). has_in (phase_of s)) opens.1)

      left_has : (how : Option Served) (behind : ServiceState PlaceState T) (after : Option (ServiceState PlaceState T)) → LeavesCell how behind after → has_at after ≡ has_in (phase_of behind)
      left_has None behind after leaves = ap has_at leaves
      left_has (Some how) behind after leaves = ap has_at leaves.2 ∙ sym (ap has_in leaves.1)

      done : (deed : Deed T) (calls : List (SupplyCall PlaceState)) (old new : RunState T) → Makes group seen counts given accepted deed old new → AreOfDeed group seen counts given accepted deed old calls new
          → AreWithin old.supply.desk → BalancesRun old calls new
      done (Opened arrived cell now) calls old new does none within =
          let made = does.2 in
          let has = opened_has (old.first + cell) (opening_at now arrived) does.0 made.before made.after made.becomes in
          let set = set_cell old.cells new.cells cell made.before made.after made.has made.is in
          aside calls old new none (ap (λ (s : RunState T). s.supply.desk) does.3) (omega (arith, set, has.0, has.1)) within
      done (Closed arrived number) calls old new does none within = aside calls old new none (ap (λ (s : RunState T). s.supply.desk) does.2) (ap (λ (s : RunState T). has_all s.cells) does.2) within
      done (Allowed most) calls old new does none within = aside calls old new none (ap (λ (s : RunState T). s.supply.desk) does) (ap (λ (s : RunState T). has_all s.cells) does) within
      done (MadeRound cell now acts how) calls old new does asked within =
          let round = asked.becomes in
          let one = all_acted acts calls round.0 round.1 old.supply new.supply round.3 within in
          let before : has_at asked.before ≡ has_in (phase_of round.0) = ap has_at round.2 in
          let after = left_has how round.1 asked.after round.4 in
          let set = set_cell old.cells new.cells cell asked.before asked.after asked.has asked.is in (
            omega (arith, one.0, before, after, set),
            one.1,
          )
      done (Passed cell) calls old new does none within =
          let made = does.0 in
          let before : has_at made.before ≡ 0 = ap has_at made.becomes.0 in
          let after : has_at made.after ≡ 0 = ap has_at made.becomes.1 in
          let set = set_cell old.cells new.cells cell made.before made.after made.has made.is in
          aside calls old new none (ap (λ (s : RunState T). s.supply.desk) does.1) (omega (arith, set, before, after)) within
      done (RetiredDue now) calls old new does its within =
          let begun = subst AreWithin (sym its.begins.desk) within in
          let balance = step_balances calls its.begun its.mid [] [] its.made its.places begun in
          let from = subst (λ (caller : DeskCallerState). Balances measure caller 0 0 (sum_by gain calls) its.mid.desk) its.begins.desk balance in
          let whole = subst (λ (caller : DeskCallerState). Balances measure old.supply.desk 0 0 (sum_by gain calls) caller) (sym (ap (λ (w : Worker). w.desk) its.leaves.becomes)) from in
          (omega (arith, whole.0, ap (λ (s : RunState T). has_all s.cells) does.1), whole.1)
      done (Called slot) calls old new does none within = aside calls old new none (ap (λ (s : RunState T). s.supply.desk) does) (ap (λ (s : RunState T). has_all s.cells) does) within
      done (Notified most others) calls old new does none within = aside calls old new none (ap (λ (s : RunState T). s.supply.desk) does.1) (ap (λ (s : RunState T). has_all s.cells) does.1) within
      done NotifiedAll calls old new does none within = aside calls old new none (ap (λ (s : RunState T). s.supply.desk) does) (ap (λ (s : RunState T). has_all s.cells) does) within
      done (Waited at_most now drains) calls old new does none within = aside calls old new none (ap (λ (s : RunState T). s.supply.desk) does.2) (ap (λ (s : RunState T). has_all s.cells) does.2) within

      all_done : (deeds : List (Deed T)) (calls : List (SupplyCall PlaceState)) (old new : RunState T) → AreOfDeeds group seen counts given accepted deeds old calls new → AreWithin old.supply.desk → BalancesRun old calls new
      all_done [] calls old new asked within = aside calls old new asked.0 (ap (λ (s : RunState T). s.supply.desk) asked.1) (ap (λ (s : RunState T). has_all s.cells) asked.1) within
      all_done (deed ∷ deeds) calls old new (mid, these, those, are, does, its, others) within =
          let one = done deed these old mid does its within in
          let rest = all_done deeds those mid new others one.1 in (
            omega (arith, one.0, rest.0, both calls these those are),
            rest.1,
          )

      -- a caller that made no call
      none_own : (worth : Call Held PlaceState → ℕ) (caller : DeskCallerState) → caller.own ≡ [] → own_sum worth caller ≡ 0
      none_own worth caller none = ap (λ own. sum_by (λ number. worth_if worth (slice_get caller.calls number)) own) none

      -- **A run from its beginning to its end**: what it handed in, with what its calls made of places, is what it was handed, and what came back to nobody
      pub run_balances : (run : Run T) (calls : List (SupplyCall PlaceState)) → IsWholeRun group seen counts given accepted run → AreCallsOf group seen counts given accepted run calls
          → (all_in measure run.last.supply.desk + all_lost measure run.last.supply.desk ≡ all_out measure run.last.supply.desk + sum_by gain calls) × AreWithin run.last.supply.desk
      run_balances run calls whole asked =
          let first = whole.is.begun in
          let none = first.none_called in
          let all = all_done run.deeds calls run.first run.last asked (subst (λ own. AllByRecursion (λ number. number < length run.first.supply.desk.calls) own) (sym none) tt) in
          let free = free_cells run.first.cells first.count first.free in (
            omega (
              arith,
              all.0,
              free,
              none_has run.last.cells whole.none_live,
              none_own (λ call. sum_by measure (places_in call)) run.first.supply.desk none,
              none_own (λ call. sum_by measure (places_out call)) run.first.supply.desk none,
              none_own (λ call. sum_by measure (places_lost call)) run.first.supply.desk none,
            ),
            all.1,
          )
