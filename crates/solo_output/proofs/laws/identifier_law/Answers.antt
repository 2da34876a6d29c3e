-- The identifier that the model computes is the least that is free.
use Rattle.solo_output.proofs.Identifiers.{is_least, least_is}
use Rattle.solo_output.proofs.laws.identifier_law.Goals as goal

pub returns-clause-least : goal.returns-clause-least
returns-clause-least c used = is_least used

pub returns-clause-only : goal.returns-clause-only
returns-clause-only c used identifier least = least_is used identifier least
