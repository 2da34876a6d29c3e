use Rattle.std.proofs.Common.{refl, arith}
use Rattle.bell.specs.declared.step.BellStep.TheVariants.{Called}
use Rattle.bell.proofs.Moves.{calls, of_cleared}
use Rattle.bell.proofs.word.call.Goals as goal

pub fetch_and-requires : goal.fetch_and-requires
fetch_and-requires c = (c.requires.word.1, omega arith, calls _ _ _ _ c.args.worker c.requires.few refl)

pub returns-clause-told : goal.returns-clause-told
returns-clause-told c = of_cleared Called _ c.args.worker _ _ _ c.requires.few refl c.fetch_and.ensures.2
