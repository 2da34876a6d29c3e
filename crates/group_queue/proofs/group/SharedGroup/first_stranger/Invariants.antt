-- The envelopes so far are among these.
use Rattle.std.proofs.Common.{All, take}
use Rattle.dispatch_core.specs.JobRuns.{jobs_of}
use Rattle.group_jobs.specs.Stamps.{Held}
use Rattle.group_queue.specs.Known.{IsAmong}
use Rattle.group_queue.proofs.group.SharedGroup.first_stranger.Given as goal

abbrev pub invariant-loop-envelope : goal.invariant-loop-envelope
invariant-loop-envelope g l = All (λ (envelope : Held). IsAmong l.self (jobs_of l.out.runs) envelope.stamp) (take l.envelope-index l.held)
