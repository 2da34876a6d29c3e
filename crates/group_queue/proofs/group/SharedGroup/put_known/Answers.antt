-- An envelope that is known counts for its job, and another for none of these.
use Rattle.std.proofs.Common.{ap, ◌∙◌, ◌≡◌, [], ◌∷◌, arith, subst}
use Rattle.dispatch_core.specs.declared.event.Job.{Job}
use Rattle.dispatch_core.specs.JobRuns.{jobs_of, count_of}
use Rattle.group_jobs.specs.declared.stamp.Stamp.{Stamp}
use Rattle.group_jobs.specs.Stamps.{job_of}
use Rattle.group_queue.proofs.Compared.{count_push, held_known}
use Rattle.group_queue.proofs.group.SharedGroup.put_known.Goals as goal

pub returns-then-is_among-clause-counts : goal.returns-then-is_among-clause-counts
returns-then-is_among-clause-counts g c = λ job there.
    let same = c.stamp-stamp.ensures in
    let among = c.is_among.ensures.0 c.if-is_among.true in
    let group : c.args.envelope.now.stamp.group ≡ c.args.self.now.slot = subst (λ (s : Stamp). s.group ≡ c.args.self.now.slot) same among.0 in
    let one : c.job.result ≡ job_of c.args.envelope.now.stamp = c.job.ensures ∙ ap job_of same in
    omega (
      arith,
      count_push (jobs_of c.args.known.now.runs) (jobs_of c.add.new.self.runs) c.job.result c.add.ensures.jobs job,
      ap (λ (j : Job). count_of job (j ∷ [])) one,
      held_known c.args.self.now.slot c.args.envelope.now job group,
    )
