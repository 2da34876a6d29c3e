use Rattle.std.proofs.Common.{refl, arith}
use Rattle.bell.specs.declared.step.BellStep.TheVariants.{Settled}
use Rattle.bell.proofs.Moves.{settles, of_set}
use Rattle.bell.proofs.word.settle.Goals as goal

pub fetch_or-requires : goal.fetch_or-requires
fetch_or-requires c = (c.requires.word.1, omega arith, settles _ _ _ _ c.args.worker c.requires.few refl)

pub returns-clause-told : goal.returns-clause-told
returns-clause-told c = of_set Settled _ c.args.worker _ _ _ c.requires.few refl c.fetch_or.ensures.2
