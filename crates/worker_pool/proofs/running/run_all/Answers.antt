-- All have done what they do.
use Rattle.std.proofs.Common.{◌≡◌, ◌<◌, ℕ, List, length, get_or, sym, subst, ap, arith}
use Rattle.broker_worker.specs.Resting.{WorkerState}
use Rattle.worker_pool.specs.Workers.{HasRun, HaveRun}
use Rattle.worker_pool.proofs.Ended.{all_run, front}
use Rattle.worker_pool.proofs.running.run_all.Goals as goal

pub returns-clause-run : goal.returns-clause-run
returns-clause-run g c =
    let olds = c.args.workers.now.items in
    let news = c.accept_beside.new.workers in
    let value = ap length c.as_mut_slice.ensures.value in
    let same : length news ≡ length olds = omega (arith, value) in
    let Run : List (WorkerState g.row.W-Transport.Denot) → Type 0 = λ olds. (i : ℕ) (d : WorkerState g.row.W-Transport.Denot) → i < length olds → HasRun (get_or olds i d) (get_or news i d) in
    let Have : List (WorkerState g.row.W-Transport.Denot) → Type 0 = λ news. HaveRun olds news in
    subst Have (sym (front _ news _ (omega (arith, value, same)))) (all_run olds news same (subst Run c.as_mut_slice.ensures.value c.accept_beside.ensures.run))
