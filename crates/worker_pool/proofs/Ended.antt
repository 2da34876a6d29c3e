-- What the workers of a pool have become once each has done what it does.
use Rattle.std.proofs.Common.{◌≡◌, ℕ, suc, ◌+◌, ◌<◌, List, [], ◌∷◌, ◌++◌, length, take, get_or, ap, sym, subst, ◌∙◌, arith}
use Rattle.std.proofs.Math.Seq.{take-append_seam}
use Rattle.conn_channel.specs.Ends.{ChannelId}
use Rattle.shared_routes.specs.Cells.{RoutesId}
use Rattle.broker_worker.specs.Parts.{AllAt}
use Rattle.broker_worker.specs.Resting.{WorkerState}
use Rattle.worker_connections.specs.Arrivals.{ArrivedState}
use Rattle.worker_connections.specs.Serving.{Ties}
use Rattle.worker_pool.specs.Workers.{HasRun, HaveRun, IsHired, IsNumbered, hired_by}

-- the front of a list that goes on
pub front : {A : Type 0} (count : ℕ) (xs ys : List A) → count ≡ length xs → take count (xs ++ ys) ≡ xs
front {A} count xs ys same = let Front : ℕ → Type 0 = λ n. take n (xs ++ ys) ≡ xs in subst Front (sym same) (take-append_seam xs ys)

module _ {T : Type 0} where
  -- its connections have the same numbers
  numbered_on : (share number : ℕ) (old new : WorkerState T) → HasRun old new → IsNumbered share number old → IsNumbered share number new
  numbered_on share number old new ran is = (ap (λ (ties : Ties T). ties.first) ran.0 ∙ is.0, ap (λ (ties : Ties T). ties.cells) ran.0 ∙ is.1)

  all_numbered : (share place : ℕ) (olds news : List (WorkerState T)) → length news ≡ length olds
      → ((i : ℕ) (d : WorkerState T) → i < length olds → HasRun (get_or olds i d) (get_or news i d)) → AllAt (IsNumbered share) place olds → AllAt (IsNumbered share) place news
  all_numbered share place [] [] same ran all = tt
  all_numbered share place [] (new ∷ news) same ran all = absurd (omega (arith, same))
  all_numbered share place (old ∷ olds) [] same ran all = absurd (omega (arith, same))
  all_numbered share place (old ∷ olds) (new ∷ news) same ran all = (
    numbered_on share place old new (ran 0 old (omega arith)) all.0,
    all_numbered share (place + 1) olds news (omega (arith, same)) (λ i d within. ran (suc i) d (omega (arith, within))) all.1,
  )

  hired_on : (channel : ChannelId (ArrivedState T)) (table : RoutesId) (old new : WorkerState T) → HasRun old new → IsHired channel table old → IsHired channel table new
  hired_on channel table old new ran is = ran.0 ∙ is ∙ ap (hired_by channel table) (sym ran.0)

  -- where each has run, all have
  pub all_run : (olds news : List (WorkerState T)) → length news ≡ length olds
      → ((i : ℕ) (d : WorkerState T) → i < length olds → HasRun (get_or olds i d) (get_or news i d)) → HaveRun olds news
  all_run olds news same ran = record {
    count = same;
    served = λ channel table hired k d h.
        let within : k < length olds = omega (arith, same, h) in
        (hired_on channel table (get_or olds k d) (get_or news k d) (ran k d within) (hired k d within), (ran k d within).1);
    numbered = λ share all. all_numbered share 0 olds news same ran all;
  }
