use Rattle.std.proofs.Common.{◌≡◌, ◌∙◌, refl, subst, arith}
use Rattle.dispatch_core.specs.declared.event.Job.{Job}
use Rattle.dispatch_core.specs.GroupState.{accepted_of}
use Rattle.local_group.specs.Tallies.{Tallies, Counts}
use Rattle.local_group.proofs.Tallied.{tallies_counted, tallies_port}
use Rattle.local_group.proofs.report.tally_port.Goals as goal

pub loop-number-preserved : goal.loop-number-preserved
loop-number-preserved c =
    let job : Job = record { port = c.args.port; number = c.loop-number.number } in
    let counts = subst (λ spot. Counts spot job c.loop-number.tally c.tally_job.new.tally) c.spot.ensures.value c.in_ok-tally_job.ensures in (
      λ before. tallies_counted c.args.state.now c.args.port c.loop-number.number c.loop-number.tally c.tally_job.new.tally counts (c.loop-number.invariant.0 before),
      counts.accepted ∙ c.loop-number.invariant.1,
    )

pub returns-clause-jobs : goal.returns-clause-jobs
returns-clause-jobs c before =
    let all : c.loop-number.number ≡ accepted_of c.args.state.now c.args.port = omega (arith, c.accepted-count.ensures.value) in
    tallies_port c.args.state.now c.args.port c.loop-number.tally _ refl refl c.accepted-count.ensures.lawful
    (subst (λ n. Tallies c.args.state.now c.args.port n c.loop-number.tally) all (c.loop-number.invariant.0 before))
