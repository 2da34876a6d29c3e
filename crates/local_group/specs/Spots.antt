-- The jobs of messages that wait.
use Rattle.std.specs.Prelude.{List, map}
use Rattle.dispatch_core.specs.declared.event.Job.{Job}
use Rattle.local_group.specs.declared.waiting.Waiting.{Waiting}

abbrev pub jobs_in : List Waiting → List Job
jobs_in waiting = map (λ w. w.job) waiting
