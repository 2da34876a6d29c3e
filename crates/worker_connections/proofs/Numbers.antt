-- At each state of a worker's run, each connection has the number of its cell.
use Rattle.std.proofs.Common.{◌≡◌, ◌≢◌, ◌+◌, ℕ, List, [], ◌∷◌, Option, Some, None, slice_get, slice_set, replicate, refl, sym, subst, ap, ◌∙◌, inl, inr, ⊎_elim}
use Rattle.std.specs.Bool.{⊤}
use Rattle.std.proofs.lemmas.Bool.{cases_eq}
use Rattle.std.proofs.lemmas.List.Elements.{All-replicate}
use Rattle.std.proofs.lemmas.Option.{slice_get_within}
use Rattle.transport.specs.declared.counts.Counts.{Counts}
use Rattle.transport.specs.declared.answers.Got.{Got}
use Rattle.transport.specs.declared.answers.Got.TheVariants as got
use Rattle.group_queue.specs.Ports.{GroupId}
use Rattle.group_queue.specs.Places.{PlaceState}
use Rattle.broker_groups.specs.Answers.{Sights}
use Rattle.conn_engine.specs.declared.input.Input.TheVariants as inputs
use Rattle.conn_engine.specs.declared.phase.Opening.{Opening}
use Rattle.client_table.specs.Clients.{ClientState, IsGivenUp}
use Rattle.conn_service.specs.declared.served.Served.{Served}
use Rattle.conn_service.specs.Acts.{Act, Enters, Leaves as Left, Asks, Reads, Writes, Steps, Loses, Fails, Starves, IsFull, IsStopped, Stalls, GivesUp, Ends, Others}
use Rattle.conn_service.specs.Lives.{Does, DoesAll}
use Rattle.conn_service.specs.Moments.{fed_by}
use Rattle.conn_service.specs.Services.{ServiceState}
use Rattle.worker_bells.proofs.Places.{others_stay, put_there}
use Rattle.shared_supply.specs.Calls.{Calls}
use Rattle.shared_supply.specs.Workers.{Worker, Begins, Leaves, is_visiting}
use Rattle.worker_connections.specs.Arrivals.{opening_at}
use Rattle.worker_connections.specs.Cells.{Opens}
use Rattle.worker_connections.specs.Chains.{Deed, Opened, Closed, Allowed, MadeRound, Passed, RetiredDue, Called, Notified, NotifiedAll, Waited, IsRun, LeavesCell, Makes, MakesAll, Run, RunState}
use Rattle.worker_connections.specs.Numbers.{AreNumberedFrom, KeepsNumbers}
use Rattle.worker_connections.proofs.Parts.{at_cell}

some_is : {X : Type 0} (x y : X) → Some x ≡ Some y → x ≡ y
some_is x y same = cc

abbrev IsNone : {X : Type 0} → Option X → Type 0
IsNone None = ⊤
IsNone (Some x) = ⊥

-- a connection that came to a cell has this number, where there is one
abbrev HasNumber : {T : Type 0} → ℕ → Option (ServiceState PlaceState T) → Type 0
HasNumber number None = ⊤
HasNumber number (Some service) = service.client.conn.number ≡ number

fed_number : (its : Got) (client : ClientState PlaceState) (bytes : List ℕ) → (fed_by its client bytes).conn.number ≡ client.conn.number
fed_number (got.Bytes count) client bytes = refl
fed_number got.Idle client bytes = refl
fed_number got.End client bytes = refl
fed_number got.Failed client bytes = refl

module _ {T : Type 0} where
  -- one cell becomes another
  set_number : (first cell : ℕ) (cells cells' : List (Option (ServiceState PlaceState T))) (before after : Option (ServiceState PlaceState T)) → slice_get cells cell ≡ Some before
      → cells' ≡ slice_set cells cell after → HasNumber (first + cell) after → AreNumberedFrom first cells → AreNumberedFrom first cells'
  set_number first cell cells cells' before after has is its all k service there =
      let there' = subst (λ (cs : List (Option (ServiceState PlaceState T))). slice_get cs k ≡ Some (Some service)) is there in
      ⊎_elim
      (λ (here : k ≡ cell).
      let put = subst (λ n. slice_get (slice_set cells cell after) n ≡ Some (Some service)) here there' in
      let same = some_is after (Some service) (sym (put_there cells cell after (slice_get_within cells cell before has)) ∙ put) in
      subst (HasNumber (first + cell)) same its ∙ ap (λ n. first + n) (sym here))
      (λ (apart : k ≢ cell). all k service (sym (others_stay cells cell k after apart) ∙ there'))
      (cases_eq k cell)

  free_numbers : (first count : ℕ) → AreNumberedFrom {T = T} first (replicate count None)
  free_numbers first count cell service has =
      absurd (at_cell IsNone (replicate count None) cell (Some service) (All-replicate IsNone count None tt) has)

  opened_number : (number : ℕ) (opening : Opening) (watched : T) (before after : Option (ServiceState PlaceState T)) → Opens number opening watched before after → HasNumber number after
  opened_number number opening watched before None opens = tt
  opened_number number opening watched before (Some service) opens = ap (λ (s : ServiceState PlaceState T). s.client.conn.number) opens.1

  left_number : (number : ℕ) (how : Option Served) (behind : ServiceState PlaceState T) (after : Option (ServiceState PlaceState T)) → LeavesCell how behind after
      → behind.client.conn.number ≡ number → HasNumber number after
  left_number number None behind after leaves is = subst (HasNumber number) (sym leaves) is
  left_number number (Some how) behind after leaves is = subst (HasNumber number) (sym leaves.2) tt

module _ {T : Type 0} (group : ℕ → GroupId) (seen : Sights) (counts : T → Counts) (given accepted : T → Option (List ℕ)) where
  abbrev slot_of : PlaceState → ℕ
  slot_of place = place.group

  -- an act leaves the number as it is
  same_client : (old new : ServiceState PlaceState T) → new.client ≡ old.client → new.client.conn.number ≡ old.client.conn.number
  same_client old new is = ap (λ (c : ClientState PlaceState). c.conn.number) is

  given_up : (old new : Worker) (client client' : ClientState PlaceState) (now : ℕ) → IsGivenUp (Calls group seen) slot_of old client now inputs.EndOfInput client' new
      → client'.conn.number ≡ client.conn.number
  given_up old new client client' now (inl moved) = moved.1.same
  given_up old new client client' now (inr fails) = fails.same

  acted : (act : Act) (old new : ServiceState PlaceState T) (supply supply' : Worker) → Does (Calls group seen) Begins Leaves is_visiting slot_of counts given accepted act old supply new supply'
      → new.client.conn.number ≡ old.client.conn.number
  acted (Enters is_open reads) old new supply supply' does = same_client old new (ap (λ (s : ServiceState PlaceState T). s.client) does.becomes)
  acted Left old new supply supply' does = same_client old new (ap (λ (s : ServiceState PlaceState T). s.client) does.same)
  acted (Asks is_kicked) old new supply supply' does = same_client old new (ap (λ (s : ServiceState PlaceState T). s.client) does.same)
  acted (Reads size its bytes) old new supply supply' does = ap (λ (s : ServiceState PlaceState T). s.client.conn.number) does.does.becomes ∙ fed_number its old.client bytes
  acted (Writes at put) old new supply supply' does = same_client old new (ap (λ (s : ServiceState PlaceState T). s.client) does.does.becomes)
  acted (Steps at input these next) old new supply supply' does = does.moved.same
  acted (Loses at input these next) old new supply supply' does = does.moved.same
  acted (Fails at input) old new supply supply' does = does.failed.same
  acted (Starves its bytes) old new supply supply' does = same_client old new (ap (λ (s : ServiceState PlaceState T). s.client) does.does.becomes)
  acted (IsFull at) old new supply supply' does = given_up supply supply' old.client new.client at does.given_up
  acted IsStopped old new supply supply' does = same_client old new (ap (λ (s : ServiceState PlaceState T). s.client) does.does.becomes)
  acted (Stalls at) old new supply supply' does = same_client old new (ap (λ (s : ServiceState PlaceState T). s.client) does.does.becomes)
  acted (GivesUp at) old new supply supply' does = given_up supply supply' old.client new.client at does.given_up
  acted Ends old new supply supply' does = same_client old new (ap (λ (s : ServiceState PlaceState T). s.client) does.does.becomes)
  acted Others old new supply supply' does = same_client old new (ap (λ (s : ServiceState PlaceState T). s.client) does)

  all_acted : (acts : List Act) (old new : ServiceState PlaceState T) (supply supply' : Worker)
      → DoesAll (Calls group seen) Begins Leaves is_visiting slot_of counts given accepted acts old supply new supply' → new.client.conn.number ≡ old.client.conn.number
  all_acted [] old new supply supply' does = ap (λ (s : ServiceState PlaceState T). s.client.conn.number) does.0
  all_acted (act ∷ acts) old new supply supply' does = all_acted acts does.0 new does.1 supply' does.3 ∙ acted act old does.0 supply does.1 does.2

  -- a deed leaves the numbers of the cells as they are, and each connection has that of its cell
  same_first : (deed : Deed T) (old new : RunState T) → Makes group seen counts given accepted deed old new → new.first ≡ old.first
  same_first (Opened arrived cell now) old new does = ap (λ (s : RunState T). s.first) does.3
  same_first (Closed arrived number) old new does = ap (λ (s : RunState T). s.first) does.2
  same_first (Allowed most) old new does = ap (λ (s : RunState T). s.first) does
  same_first (MadeRound cell now acts how) old new does = ap (λ (s : RunState T). s.first) does.1
  same_first (Passed cell) old new does = ap (λ (s : RunState T). s.first) does.1
  same_first (RetiredDue now) old new does = ap (λ (s : RunState T). s.first) does.1
  same_first (Called slot) old new does = ap (λ (s : RunState T). s.first) does
  same_first (Notified most others) old new does = ap (λ (s : RunState T). s.first) does.1
  same_first NotifiedAll old new does = ap (λ (s : RunState T). s.first) does
  same_first (Waited at_most now drains) old new does = ap (λ (s : RunState T). s.first) does.2

  all_first : (deeds : List (Deed T)) (old new : RunState T) → MakesAll group seen counts given accepted deeds old new → new.first ≡ old.first
  all_first [] old new does = ap (λ (s : RunState T). s.first) does
  all_first (deed ∷ deeds) old new does = all_first deeds does.0 new does.2 ∙ same_first deed old does.0 does.1

  numbered : (deed : Deed T) (old new : RunState T) → Makes group seen counts given accepted deed old new → AreNumberedFrom old.first old.cells → AreNumberedFrom old.first new.cells
  numbered (Opened arrived cell now) old new does all =
      let made = does.2 in
      set_number old.first cell old.cells new.cells made.before made.after made.has made.is
      (opened_number (old.first + cell) (opening_at now arrived) does.0 made.before made.after made.becomes) all
  numbered (Closed arrived number) old new does all = subst (λ (s : RunState T). AreNumberedFrom old.first s.cells) (sym does.2) all
  numbered (Allowed most) old new does all = subst (λ (s : RunState T). AreNumberedFrom old.first s.cells) (sym does) all
  numbered (MadeRound cell now acts how) old new does all =
      let made = does.0 in
      let goes = made.becomes in
      let was = all cell goes.service (made.has ∙ ap (λ (c : Option (ServiceState PlaceState T)). Some c) goes.here) in
      let is = all_acted goes.round.led.acts goes.service goes.behind old.supply new.supply goes.round.led.does ∙ was in
      set_number old.first cell old.cells new.cells made.before made.after made.has made.is (left_number (old.first + cell) how goes.behind made.after goes.leaves is) all
  numbered (Passed cell) old new does all =
      let made = does.0 in
      set_number old.first cell old.cells new.cells made.before made.after made.has made.is (subst (HasNumber (old.first + cell)) (sym made.becomes.1) tt) all
  numbered (RetiredDue now) old new does all = subst (λ (s : RunState T). AreNumberedFrom old.first s.cells) (sym does.1) all
  numbered (Called slot) old new does all = subst (λ (s : RunState T). AreNumberedFrom old.first s.cells) (sym does) all
  numbered (Notified most others) old new does all = subst (λ (s : RunState T). AreNumberedFrom old.first s.cells) (sym does.1) all
  numbered NotifiedAll old new does all = subst (λ (s : RunState T). AreNumberedFrom old.first s.cells) (sym does) all
  numbered (Waited at_most now drains) old new does all = subst (λ (s : RunState T). AreNumberedFrom old.first s.cells) (sym does.2) all

  all_numbered : (deeds : List (Deed T)) (old new : RunState T) → MakesAll group seen counts given accepted deeds old new → AreNumberedFrom old.first old.cells → AreNumberedFrom old.first new.cells
  all_numbered [] old new does all = subst (λ (s : RunState T). AreNumberedFrom old.first s.cells) (sym does) all
  all_numbered (deed ∷ deeds) old new does all =
      let first = same_first deed old does.0 does.1 in
      subst (λ n. AreNumberedFrom n new.cells) first
      (all_numbered deeds does.0 new does.2 (subst (λ n. AreNumberedFrom n does.0.cells) (sym first) (numbered deed old does.0 does.1 all)))

  -- so it is at each state of a run
  pub keeps_numbers : (run : Run T) → IsRun group seen counts given accepted run → KeepsNumbers group seen counts given accepted run
  keeps_numbers run is = record {
    kept = (λ these those mid split made.
        let free = subst (AreNumberedFrom run.first.first) (sym is.begun.free) (free_numbers run.first.first is.begun.count) in
        subst (λ n. AreNumberedFrom n mid.cells) (sym (all_first run.deeds run.first run.last is.made)) (all_numbered these run.first mid made free));
  }
