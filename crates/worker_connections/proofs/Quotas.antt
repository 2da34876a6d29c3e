-- At each state of a worker's run, each of its connections is within its Receive Maximum (4.9), and so is whatever it does from there.
use Rattle.std.proofs.Common.{◌≡◌, ◌+◌, ◌≤◌, ℕ, List, [], ◌∷◌, ◌++◌, Option, Some, None, All, refl, sym, subst, ap, ◌∙◌, append_assoc}
use Rattle.std.specs.Bool.{⊤}
use Rattle.std.specs.List.{AllByRecursion}
use Rattle.std.proofs.lemmas.List.Elements.{All-set, All-replicate}
use Rattle.transport.specs.declared.counts.Counts.{Counts}
use Rattle.group_queue.specs.Ports.{GroupId}
use Rattle.broker_groups.specs.Answers.{Sights}
use Rattle.group_queue.specs.Places.{PlaceState}
use Rattle.conn_engine.specs.declared.phase.Opening.{Opening}
use Rattle.conn_engine.specs.declared.phase.ConnPhase.{ConnPhase}
use Rattle.conn_laws.specs.Quotas.{IsWithinLimit, IsWithinQuota}
use Rattle.conn_laws.proofs.Limits as limits
use Rattle.conn_laws.proofs.Quotas as quotas
use Rattle.conn_service.specs.declared.served.Served.{Served}
use Rattle.conn_service.specs.Services.{ServiceState}
use Rattle.conn_service.specs.Acts.{Act}
use Rattle.conn_service.specs.Lives.{DoesAll}
use Rattle.conn_service.proofs.Phases.{kept_on}
use Rattle.worker_connections.specs.Cells.{Opens}
use Rattle.shared_supply.specs.Calls.{Calls}
use Rattle.shared_supply.specs.Workers.{Worker, Begins, Leaves, is_visiting}
use Rattle.worker_connections.specs.Arrivals.{ArrivedState, opening_at}
use Rattle.worker_connections.proofs.Chaining.{came_all}
use Rattle.worker_connections.proofs.Parts.{at_cell, both_parts}
use Rattle.worker_connections.specs.Chains.{Deed, Opened, Closed, Allowed, MadeRound, Passed, RetiredDue, Called, Notified, NotifiedAll, Waited, IsRun, KeepsReceiveMaximum, LeavesCell, Makes, MakesAll, Run, RunState, came_in, came_by}

-- it has no more unacknowledged than its Receive Maximum, and than this limit
abbrev Within : ℕ → ConnPhase PlaceState → Type 0
Within limit phase = IsWithinQuota phase × IsWithinLimit limit phase

abbrev IfWithin : {T : Type 0} → ℕ → Option (ServiceState PlaceState T) → Type 0
IfWithin limit None = ⊤
IfWithin limit (Some service) = Within limit service.client.conn.phase

-- its client may have no more than so many unacknowledged
abbrev IsLimited : {T : Type 0} → ℕ → ArrivedState T → Type 0
IsLimited limit arrived = arrived.limits.max_inflight ≤ limit

opened_within : {T : Type 0} (limit number : ℕ) (opening : Opening) (watched : T) (before after : Option (ServiceState PlaceState T)) → opening.limits.max_inflight ≤ limit
    → Opens number opening watched before after → IfWithin limit after
opened_within limit number opening watched before None few opens = tt
opened_within {T = T} limit number opening watched before (Some service) few opens =
    subst (λ (s : ServiceState PlaceState T). Within limit s.client.conn.phase) (sym opens.1) (tt, few)

left_within : {T : Type 0} (limit : ℕ) (how : Option Served) (behind : ServiceState PlaceState T) (after : Option (ServiceState PlaceState T)) → LeavesCell how behind after
    → Within limit behind.client.conn.phase → IfWithin limit after
left_within {T = T} limit None behind after leaves within = subst (λ (cell : Option (ServiceState PlaceState T)). IfWithin limit cell) (sym leaves) within
left_within {T = T} limit (Some how) behind after leaves within = subst (λ (cell : Option (ServiceState PlaceState T)). IfWithin limit cell) (sym leaves.2) tt

module _ {T : Type 0} (group : ℕ → GroupId) (seen : Sights) (counts : T → Counts) (given accepted : T → Option (List ℕ)) where
  within_all : (limit : ℕ) (acts : List Act) (old new : ServiceState PlaceState T) (supply supply' : Worker) → Within limit old.client.conn.phase
      → DoesAll (Calls group seen) Begins Leaves is_visiting (λ (p : PlaceState). p.group) counts given accepted acts old supply new supply' → Within limit new.client.conn.phase
  within_all limit [] old new supply supply' within does = subst (λ (s : ServiceState PlaceState T). Within limit s.client.conn.phase) (sym does.0) within
  within_all limit (act ∷ acts) old new supply supply' within does =
      within_all limit acts does.0 new does.1 supply'
      (kept_on (Calls group seen) Begins Leaves is_visiting (λ (p : PlaceState). p.group) counts given accepted (Within limit) (tt, tt)
      (λ number now phase phase' input sent next from to stepped kept. (
        quotas.within (Calls group seen) (λ (p : PlaceState). p.group) number now phase phase' input sent next from to stepped kept.0,
        limits.within (Calls group seen) (λ (p : PlaceState). p.group) limit number now phase phase' input sent next from to stepped kept.1,
      ))
      act old does.0 supply does.1 within does.2) does.3

  keeps : (limit : ℕ) (deed : Deed T) (old new : RunState T) → AllByRecursion (IsLimited limit) (came_in deed) → Makes group seen counts given accepted deed old new
      → All (IfWithin limit) old.cells → All (IfWithin limit) new.cells
  keeps limit (Opened arrived cell now) old new few does all =
      let made = does.2 in
      subst (λ (cells : List (Option (ServiceState PlaceState T))). All (IfWithin limit) cells) (sym made.is)
      (All-set (IfWithin limit) old.cells cell made.after (opened_within limit (old.first + cell) (opening_at now arrived) does.0 made.before made.after few.0 made.becomes) all)
  keeps limit (Closed arrived number) old new few does all = subst (λ (s : RunState T). All (IfWithin limit) s.cells) (sym does.2) all
  keeps limit (Allowed most) old new few does all = subst (λ (s : RunState T). All (IfWithin limit) s.cells) (sym does) all
  keeps limit (MadeRound cell now acts how) old new few does all =
      let made = does.0 in
      let goes = made.becomes in
      let first = subst (λ (c : Option (ServiceState PlaceState T)). IfWithin limit c) goes.here (at_cell (IfWithin limit) old.cells cell made.before all made.has) in
      subst (λ (cells : List (Option (ServiceState PlaceState T))). All (IfWithin limit) cells) (sym made.is)
      (All-set (IfWithin limit) old.cells cell made.after
      (left_within limit how goes.behind made.after goes.leaves
      (within_all limit goes.round.led.acts goes.service goes.behind old.supply new.supply first goes.round.led.does)) all)
  keeps limit (Passed cell) old new few does all =
      let made = does.0 in
      subst (λ (cells : List (Option (ServiceState PlaceState T))). All (IfWithin limit) cells) (sym made.is)
      (All-set (IfWithin limit) old.cells cell made.after (subst (λ (c : Option (ServiceState PlaceState T)). IfWithin limit c) (sym made.becomes.1) tt) all)
  keeps limit (RetiredDue now) old new few does all = subst (λ (s : RunState T). All (IfWithin limit) s.cells) (sym does.1) all
  keeps limit (Called slot) old new few does all = subst (λ (s : RunState T). All (IfWithin limit) s.cells) (sym does) all
  keeps limit (Notified most others) old new few does all = subst (λ (s : RunState T). All (IfWithin limit) s.cells) (sym does.1) all
  keeps limit NotifiedAll old new few does all = subst (λ (s : RunState T). All (IfWithin limit) s.cells) (sym does) all
  keeps limit (Waited at_most now drains) old new few does all = subst (λ (s : RunState T). All (IfWithin limit) s.cells) (sym does.2) all

  keeps_all : (limit : ℕ) (deeds : List (Deed T)) (old new : RunState T) → AllByRecursion (IsLimited limit) (came_by deeds) → MakesAll group seen counts given accepted deeds old new
      → All (IfWithin limit) old.cells → All (IfWithin limit) new.cells
  keeps_all limit [] old new few does all = subst (λ (s : RunState T). All (IfWithin limit) s.cells) (sym does) all
  keeps_all limit (deed ∷ deeds) old new few does all =
      let parts = both_parts (IsLimited limit) (came_in deed) (came_by deeds) few in
      keeps_all limit deeds does.0 new parts.1 does.2 (keeps limit deed old does.0 parts.0 does.1 all)

  came_both : (these those : List (Deed T)) → came_by (these ++ those) ≡ came_by these ++ came_by those
  came_both [] those = refl
  came_both (deed ∷ these) those = ap (λ (l : List (ArrivedState T)). came_in deed ++ l) (came_both these those) ∙ sym (append_assoc (came_in deed) (came_by these) (came_by those))

  -- where those that came may have no more than so many unacknowledged
  pub within_quota : (limit : ℕ) (run : Run T) → IsRun group seen counts given accepted run → AllByRecursion (λ (arrived : ArrivedState T). arrived.limits.max_inflight ≤ limit) run.last.received
      → KeepsReceiveMaximum group seen counts given accepted limit run
  within_quota limit run is few = record {
    kept = (λ these those mid split made cell service here acts later supply supply' does.
        let came = came_all group seen counts given accepted run.deeds run.first run.last is.made ∙ ap (λ (l : List (ArrivedState T)). l ++ came_by run.deeds) is.begun.none_came in
        let all = subst (λ (deeds : List (Deed T)). AllByRecursion (IsLimited limit) (came_by deeds)) split (subst (AllByRecursion (IsLimited limit)) came few) in
        let first = (both_parts (IsLimited limit) (came_by these) (came_by those) (subst (AllByRecursion (IsLimited limit)) (came_both these those) all)).0 in
        let none = subst (λ (cells : List (Option (ServiceState PlaceState T))). All (IfWithin limit) cells) (sym is.begun.free) (All-replicate (IfWithin limit) is.begun.count None tt) in
        let within = at_cell (IfWithin limit) mid.cells cell (Some service) (keeps_all limit these run.first mid first made none) here in
        within_all limit acts service later supply supply' within does);
  }
