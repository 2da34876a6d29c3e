-- The connections of a worker stay accounted for.
use Rattle.std.proofs.Common.{◌≡◌, ◌+◌, ℕ, List, [], ◌∷◌, Option, refl, inl, inr, ◌∙◌, ap, arith}
use Rattle.transport.specs.declared.counts.Counts.{Counts}
use Rattle.group_queue.specs.Places.{PlaceState}
use Rattle.conn_service.specs.declared.served.Served.TheVariants.{Memory}
use Rattle.conn_service.specs.Services.{ServiceState}
use Rattle.worker_connections.specs.Cells.{ended_by, occupied}
use Rattle.worker_connections.specs.declared.cell_outcome.CellOutcome.{CellOutcome}
use Rattle.worker_connections.specs.declared.cell_outcome.CellOutcome.TheVariants.{Vacant, Goes, Ended}
use Rattle.worker_connections.specs.declared.served.ServedCounts.{ServedCounts}
use Rattle.worker_connections.specs.Arrivals.{ArrivedState}
use Rattle.worker_connections.specs.Counting.{counted, counted_behind, none_served}
use Rattle.worker_connections.specs.PollerCalls.{PollerCall}
use Rattle.worker_connections.specs.Serving.{AreCounted, IsAccounted, TakesIn}

abbrev Table : Type 0 → Type 0
Table T = List (Option (ServiceState PlaceState T))

module _ {T : Type 0} where
  -- no connection was received, and all cells are free
  pub fresh : (cells : Table T) → occupied cells ≡ 0 → IsAccounted 0 cells none_served
  fresh cells none = record { endings = []; counted = refl; all = omega (arith, none) }

  -- after a round those that have ended are counted
  pub behind_round : (received : ℕ) (cells cells' : Table T) (served served' : ServedCounts) (cell_outcome : CellOutcome T) → IsAccounted received cells served
      → occupied cells ≡ occupied cells' + ended_by cell_outcome → served' ≡ counted_behind cell_outcome served → IsAccounted received cells' served'
  behind_round received cells cells' served served' Vacant old fewer counts_it =
      record { endings = old.endings; counted = counts_it ∙ old.counted; all = omega (arith, old.all, fewer) }
  behind_round received cells cells' served served' (Goes round) old fewer counts_it =
      record { endings = old.endings; counted = counts_it ∙ old.counted; all = omega (arith, old.all, fewer) }
  behind_round received cells cells' served served' (Ended how transport) old fewer counts_it =
      record { endings = how ∷ old.endings; counted = counts_it ∙ ap (counted how) old.counted; all = omega (arith, old.all, fewer) }

  -- one more was received, and is open or counted
  pub came_one : (counts : T → Counts) (given accepted : T → Option (List ℕ)) (first now : ℕ) (arrived : ArrivedState T) (received received' : ℕ) (cells cells' : Table T)
      (served served' : ServedCounts) (poller_calls poller_calls' : Option (List (PollerCall T))) → received' ≡ received + 1 → IsAccounted received cells served
      → TakesIn counts given accepted first now arrived cells served poller_calls cells' served' poller_calls'
      → IsAccounted received' cells' served'
  came_one counts given accepted first now arrived received received' cells cells' served served' poller_calls poller_calls' more old (inl opened) =
      record { endings = old.endings; counted = opened.2 ∙ old.counted; all = omega (arith, more, old.all, opened.1.3) }
  came_one counts given accepted first now arrived received received' cells cells' served served' poller_calls poller_calls' more old (inr refused) =
      record { endings = Memory ∷ old.endings; counted = refused.1 ∙ ap (counted Memory) old.counted; all = omega (arith, more, old.all, ap occupied refused.0.0) }

  -- where no connection is open, all that were received have ended
  pub settled : (received : ℕ) (cells : Table T) (served : ServedCounts) → IsAccounted received cells served → occupied cells ≡ 0 → AreCounted received served
  settled received cells served accounted none =
      record { endings = accounted.endings; counted = accounted.counted; all = omega (arith, accounted.all, none) }
