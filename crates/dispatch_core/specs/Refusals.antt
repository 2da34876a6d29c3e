-- The numbers of the refusals, and a refusal with its place.
use Rattle.std.specs.Prelude.{ℕ}
use Rattle.dispatch_core.specs.declared.error.StepError.{StepError}
use Rattle.dispatch_core.specs.declared.error.StepError.TheVariants as step
use Rattle.dispatch_core.specs.declared.error.ReplayError.{ReplayError}
use Rattle.dispatch_core.specs.declared.error.ReplayError.TheVariants as replay

abbrev pub number_of : StepError → ℕ
number_of (step.Stuck why) = 301
number_of step.Memory = 302

abbrev pub replay_number_of : ReplayError → ℕ
replay_number_of (replay.Stuck at why) = 301
replay_number_of (replay.Memory at) = 302
replay_number_of replay.NoState = 302

-- the refusal of the event at this place
abbrev pub placed : ℕ → StepError → ReplayError
placed at (step.Stuck why) = replay.Stuck at why
placed at step.Memory = replay.Memory at
