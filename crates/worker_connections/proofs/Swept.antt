-- Of the connections of a worker it stays known since when each of them went on.
use Rattle.std.proofs.Common.{◌≡◌, ◌≢◌, ◌<◌, ◌≤◌, ◌+◌, ℕ, Bool, List, length, Option, Some, None, replicate, All, get_or, refl, sym, ap, ◌∙◌, subst, inl, inr, ⊎_elim, arith}
use Rattle.std.proofs.Math.Nat.{le-max_left, le_trans}
use Rattle.std.specs.List.{slice_get, slice_set}
use Rattle.std.proofs.lemmas.Option.{slice_get_within}
use Rattle.std.proofs.lemmas.Bool.{cases_eq}
use Rattle.std.proofs.lemmas.List.Elements.{All-set, All-replicate}
use Rattle.std.proofs.lemmas.List.{get_or-set_same, get_or-set_other, get_or_default}
use Rattle.transport.specs.declared.counts.Counts.{Counts}
use Rattle.conn_supply.specs.SupplyCalls.{SupplyCall}
use Rattle.conn_engine.specs.declared.phase.Opening.{Opening}
use Rattle.conn_service.specs.Services.{ServiceState, opened}
use Rattle.worker_connections.specs.Cells.{InCell, Opens, Tells, Turns}
use Rattle.worker_connections.specs.declared.cell_outcome.CellOutcome.{CellOutcome}
use Rattle.worker_connections.specs.declared.cell_outcome.CellOutcome.TheVariants.{Vacant, Goes, Ended}
use Rattle.worker_connections.specs.declared.sweeps.Sweeps.{Sweeps}
use Rattle.group_queue.specs.Places.{PlaceState}
use Rattle.worker_connections.specs.declared.served.ServedCounts.{ServedCounts}
use Rattle.worker_connections.specs.Arrivals.{ArrivedState, opening_at}
use Rattle.worker_connections.specs.PollerCalls.{PollerCall}
use Rattle.worker_connections.specs.Serving.{TakesIn}
use Rattle.worker_connections.specs.Sweeping.{AreSwept, Begins, IfFreshSince, Notes, looked}

before_it : (k n : ℕ) → k ≢ n → k < n + 1 → k < n
before_it k n apart within = omega arith

module _ {P T : Type 0} where
  -- who went on at some moment or later did so at an earlier one or later
  earlier : (since before : ℕ) (cell : Option (ServiceState P T)) → before ≤ since → IfFreshSince since cell → IfFreshSince before cell
  earlier since before None le fresh = tt
  earlier since before (Some service) le fresh = (fresh.0, omega (arith, le, fresh.1), fresh.2)

  -- one that is opened goes on
  pub opens : (now number : ℕ) (opening : Opening) (transport : T) (before after : Option (ServiceState P T)) → opening.at ≡ now → Opens number opening transport before after → IfFreshSince now after
  opens now number opening transport before None at opened_so = tt
  opens now number opening transport before (Some service) at opened_so =
      let same : service.client.conn.number ≡ number = ap (λ (s : ServiceState P T). s.client.conn.number) opened_so.1 in
      (now, omega arith, inl (transport, opening, at, opened_so.1 ∙ ap (λ n. opened n opening transport) (sym same)))

  -- all cells are free
  pub free : (count : ℕ) (cells : List (Option (ServiceState P T))) (sweeps : Sweeps) → cells ≡ replicate count None → sweeps.swept ≡ 0 → sweeps.begun ≡ 0 → sweeps.gone ≡ 0 → AreSwept sweeps cells
  free count cells sweeps are swept begun gone = record {
    all = subst (λ (those : List (Option (ServiceState P T))). All (IfFreshSince sweeps.swept) those) (sym are) (All-replicate (IfFreshSince sweeps.swept) count None tt);
    some = λ cell below. absurd (omega (arith, below, gone));
    swept = omega (arith, swept);
    begun = omega (arith, begun);
  }

  -- the worker looked at its clock
  pub looks : (cells : List (Option (ServiceState P T))) (old new : Sweeps) (now : ℕ) → AreSwept old cells → new ≡ looked now old → AreSwept new cells
  looks cells old new now are is = subst (λ (it : Sweeps). AreSwept it cells) (sym is) (record {
    all = are.all;
    some = are.some;
    swept = are.swept;
    begun = le_trans are.begun (le-max_left old.latest now);
  })

  -- a sweep begins
  pub begins : (cells : List (Option (ServiceState P T))) (old new : Sweeps) → AreSwept old cells → Begins (length cells) old new → AreSwept new cells
  begins cells old new are (inl none) = subst (λ (it : Sweeps). AreSwept it cells) (sym none.1) (record {
    all = λ k d within. absurd (omega (arith, within, none.0));
    some = λ cell below. absurd (omega (arith, below));
    swept = omega arith;
    begun = omega arith;
  })
  begins cells old new are (inr some) = subst (λ (it : Sweeps). AreSwept it cells) (sym some.1) (record {
    all = are.all;
    some = λ cell below. absurd (omega (arith, below));
    swept = omega (arith, are.swept, are.begun);
    begun = omega arith;
  })

  -- the connection in a cell went on at the latest moment
  pub touched : (cells cells' : List (Option (ServiceState P T))) (cell : ℕ) (before after : Option (ServiceState P T)) (sweeps : Sweeps) → AreSwept sweeps cells → slice_get cells cell ≡ Some before
      → cells' ≡ slice_set cells cell after → IfFreshSince sweeps.latest after → AreSwept sweeps cells'
  touched cells cells' cell before after sweeps are has is fresh =
      let within = slice_get_within cells cell before has in
      subst (λ (those : List (Option (ServiceState P T))). AreSwept sweeps those) (sym is) (record {
        all = All-set (IfFreshSince sweeps.swept) cells cell after (earlier sweeps.latest sweeps.swept after (omega (arith, are.swept, are.begun)) fresh) are.all;
        some = λ k below. ⊎_elim
            (λ (same : k ≡ cell).
            subst (λ n. IfFreshSince sweeps.begun (get_or (slice_set cells cell after) n None)) (sym same)
            (subst (IfFreshSince sweeps.begun) (sym (get_or-set_same cells cell after None within)) (earlier sweeps.latest sweeps.begun after are.begun fresh)))
            (λ (other : k ≢ cell). subst (IfFreshSince sweeps.begun) (sym (get_or-set_other cells cell k after None other)) (are.some k below))
            (cases_eq k cell);
        swept = are.swept;
        begun = are.begun;
      })

  -- it is in its cell
  pub here : (cells cells' : List (Option (ServiceState P T))) (cell : ℕ) (before after : Option (ServiceState P T)) (since : ℕ) → slice_get cells cell ≡ Some before
      → cells' ≡ slice_set cells cell after → IfFreshSince since after → IfFreshSince since (get_or cells' cell None)
  here cells cells' cell before after since has is fresh =
      subst (λ (those : List (Option (ServiceState P T))). IfFreshSince since (get_or those cell None)) (sym is)
      (subst (IfFreshSince since) (sym (get_or-set_same cells cell after None (slice_get_within cells cell before has))) fresh)

  -- after one that was opened
  opened_one : (cells cells' : List (Option (ServiceState P T))) (cell number : ℕ) (opening : Opening) (transport : T) (sweeps : Sweeps) → opening.at ≡ sweeps.latest → AreSwept sweeps cells
      → InCell cells cell (Opens number opening transport) cells' → AreSwept sweeps cells'
  opened_one cells cells' cell number opening transport sweeps at are made =
      touched cells cells' cell made.before made.after sweeps are made.has made.is (opens sweeps.latest number opening transport made.before made.after at made.becomes)

  -- that it went on is noted
  pub noted : (cells : List (Option (ServiceState P T))) (cell : ℕ) (old new : Sweeps) → AreSwept old cells → IfFreshSince old.latest (get_or cells cell None)
      → Notes cell (length cells) old new → AreSwept new cells
  noted cells cell old new are fresh notes =
      ⊎_elim
      (λ (not_next : (cell ≢ old.gone) × (new ≡ old)). subst (λ (it : Sweeps). AreSwept it cells) (sym not_next.1) are)
      (λ next. ⊎_elim
      (λ (more : (cell ≡ old.gone) × (cell + 1 < length cells) × (new ≡ record old { gone = cell + 1 })).
      subst (λ (it : Sweeps). AreSwept it cells) (sym more.2) (record { all = are.all; some = λ k below. up_to more.0 k below; swept = are.swept; begun = are.begun }))
      (λ (last : (cell ≡ old.gone) × (length cells ≤ cell + 1) × (new ≡ record old { swept = old.begun; gone = 0 })).
      subst (λ (it : Sweeps). AreSwept it cells) (sym last.2) (record {
        all = λ k d within. subst (IfFreshSince old.begun) (sym (get_or_default cells k d None within)) (up_to last.0 k (omega (arith, within, last.1)));
        some = λ k below. absurd (omega (arith, below));
        swept = omega arith;
        begun = are.begun;
      }))
      next)
      notes
    where
      up_to : cell ≡ old.gone → (k : ℕ) → k < cell + 1 → IfFreshSince old.begun (get_or cells k None)
      up_to is k below = ⊎_elim
          (λ (same : k ≡ cell). subst (λ n. IfFreshSince old.begun (get_or cells n None)) (sym same) (earlier old.latest old.begun (get_or cells cell None) are.begun fresh))
          (λ (other : k ≢ cell). are.some k (omega (arith, before_it k cell other below, is)))
          (cases_eq k cell)

module _ {S P T : Type 0} (call : S → SupplyCall P → S → Type 0) (begins ends : S → S → Type 0) (visiting : S → Bool) (slot_of : P → ℕ)
    (counts : T → Counts) (given accepted : T → Option (List ℕ)) where
  -- what a round tells
  tells : (cell_outcome : CellOutcome T) (service : ServiceState P T) (now : ℕ) (after : Option (ServiceState P T)) → Tells cell_outcome service now after → IfFreshSince now after
  tells Vacant service now after told = absurd told
  tells (Goes round) service now after told = subst (IfFreshSince now) (sym told.1) (now, omega arith, inr (round, told.0))
  tells (Ended how transport) service now after told = subst (IfFreshSince now) (sym told.2) tt

  -- a connection goes on by a round
  pub turns : (now : ℕ) (before : Option (ServiceState P T)) (supply : S) (cell_outcome : CellOutcome T) (after : Option (ServiceState P T)) (supply' : S)
      → Turns call begins ends visiting slot_of counts given accepted now before supply cell_outcome after supply' → IfFreshSince now after
  turns now None supply cell_outcome after supply' made = subst (IfFreshSince now) (sym made.1) tt
  turns now (Some service) supply cell_outcome after supply' made = tells cell_outcome made.0 now after made.2

  -- after a round that is noted
  pub rounds : (cells cells' : List (Option (ServiceState P T))) (cell count : ℕ) (supply supply' : S) (cell_outcome : CellOutcome T) (old new : Sweeps) → AreSwept old cells
      → InCell cells cell (λ before after. Turns call begins ends visiting slot_of counts given accepted old.latest before supply cell_outcome after supply') cells'
      → count ≡ length cells' → Notes cell count old new → AreSwept new cells'
  rounds cells cells' cell count supply supply' cell_outcome old new are made long notes =
      let fresh = turns old.latest made.before supply cell_outcome made.after supply' made.becomes in
      noted cells' cell old new
      (touched cells cells' cell made.before made.after old are made.has made.is fresh)
      (here cells cells' cell made.before made.after old.latest made.has made.is fresh)
      (subst (λ n. Notes cell n old new) long notes)

-- after one that came
pub came_one : {T : Type 0} (counts : T → Counts) (given accepted : T → Option (List ℕ)) (arrived : ArrivedState T) (cells cells' : List (Option (ServiceState PlaceState T)))
    (served served' : ServedCounts) (poller_calls poller_calls' : Option (List (PollerCall T))) (first : ℕ) (sweeps : Sweeps) → AreSwept sweeps cells
    → TakesIn counts given accepted first sweeps.latest arrived cells served poller_calls cells' served' poller_calls' → AreSwept sweeps cells'
came_one counts given accepted arrived cells cells' served served' poller_calls poller_calls' first sweeps are (inl opened) =
    opened_one cells cells' opened.0 (first + opened.0) (opening_at sweeps.latest arrived) opened.1.0 sweeps refl are opened.1.2
came_one counts given accepted arrived cells cells' served served' poller_calls poller_calls' first sweeps are (inr refused) = subst (λ those. AreSwept sweeps those) (sym refused.0.0) are
