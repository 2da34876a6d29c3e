-- One job more is in the list.
use Rattle.std.proofs.Common.{subst, ◌<◌, All, arith, length, ap, ◌∙◌}
use Rattle.std.specs.VecDeque.Iter.{deque_iter_rest}
use Rattle.std.proofs.lemmas.List.Elements.{All-cons, All-head, All-tail}
use Rattle.std.proofs.lemmas.List.Sorted.{All-permutation}
use Rattle.dispatch_core.specs.declared.event.Job.{Job}
use Rattle.dispatch_core.specs.JobRuns.{jobs_of, count_of}
use Rattle.dispatch_core.proofs.JobLists.{count_of-cons}
use Rattle.group_queue.proofs.Compared.{count_push, none_counted}
use Rattle.group_queue.proofs.comparing.put_out.Goals as goal

pub loop-job-preserved : goal.loop-job-preserved
loop-job-preserved g c =
    let Small : Job → Type 0 = λ job. job.number < 18446744073709551615 in
    let one = c.in-Some.job.now in
    let rest = deque_iter_rest c.next.new.self in
    let step = c.in-Some.ensures.steps in
    let left = subst (All Small) step c.loop-job.invariant.left in
    record {
      room = omega (arith, c.loop-job.invariant.room, c.add.ensures.room, c.add.ensures.grown, ap length step);
      counts = (λ job. omega (
        arith,
        c.loop-job.invariant.counts job,
        count_push (jobs_of c.loop-job.list.runs) (jobs_of c.add.new.self.runs) one c.add.ensures.jobs job,
        ap (count_of job) step,
        count_of-cons job one rest,
      ));
      small = All-permutation Small _ _ c.add.ensures.jobs (All-cons Small one (jobs_of c.loop-job.list.runs) (All-head Small one rest left) c.loop-job.invariant.small);
      left = All-tail Small one rest left;
    }

pub loop-job-init : goal.loop-job-init
loop-job-init g c =
    let all = c.into_iter-job-iterator.ensures.into_iter_gives.0 in
    let runs = c.reserve.ensures.runs in
    record {
      room = omega (arith, ap length all, c.len.ensures, c.in_ok-reserve.ensures.ok);
      counts = (λ job. omega (arith, ap (λ these. count_of job (jobs_of these)) runs, ap (count_of job) (all ∙ c.out-jobs.ensures.value)));
      small = rw runs c.requires.small;
      left = rw all c.out-jobs.ensures.small;
    }

pub returns-clause-counts : goal.returns-clause-counts
returns-clause-counts g c = λ job. omega (arith, c.loop-job.invariant.counts job, none_counted (deque_iter_rest c.loop-job.job-iterator) job c.in-None.ensures.steps.0)
