use Rattle.std.proofs.Common.{◌≡◌, ◌∙◌, List, refl, ap, subst}
use Rattle.dispatch_core.specs.declared.event.Job.{Job}
use Rattle.dispatch_core.specs.GroupState.{GroupState, accepted_of}
use Rattle.dispatch_core.specs.JobRuns.{count_of}
use Rattle.local_group.specs.Spots.{jobs_in}
use Rattle.group_jobs.specs.Spots.{times_out, times_settled}
use Rattle.group_jobs.specs.Settled.{settled_as}
use Rattle.local_group.specs.Tallies.{ListsBefore}
use Rattle.local_group.proofs.Tallied.{lists_all}
use Rattle.local_group.proofs.group.LocalGroup.report.Goals as goal

pub returns : goal.returns
returns c =
    let group = c.args.self.now in
    let tally = c.in_ok-tally.tally in
    let told = c.in_ok-tally.ensures in
    let state : c.state.result.now ≡ group.state = c.state.ensures.value in
    let queued = c.in_ok-jobs_in.ensures ∙ ap jobs_in c.queue.ensures.items in
    let back = c.in_ok-jobs_in-2.ensures ∙ ap jobs_in c.returned.ensures.items in
    record {
      ports = told.accepted.many;
      accepted = λ port within. told.accepted.each port within ∙ ap (λ (s : GroupState). accepted_of s port) state;
      no_other = c.state.ensures.ranged.ports;
      settled = λ fate. lists_all (times_settled fate) group.state (settled_as fate tally.settled) refl c.state.ensures.ranged (subst (λ s. ListsBefore (times_settled fate) s 64 0 (settled_as fate tally.settled)) state (told.jobs.settled fate));
      held = lists_all times_out group.state tally.held.items refl c.state.ensures.ranged (subst (λ s. ListsBefore times_out s 64 0 tally.held.items) state told.jobs.held);
      queued = λ job. ap (λ (jobs : List Job). count_of job jobs) queued ∙ c.queue.ensures.jobs job;
      returned = λ job. ap (λ (jobs : List Job). count_of job jobs) back ∙ c.returned.ensures.jobs job;
      queue = queued;
      back = back;
    }
