use Rattle.std.proofs.Common.{arith}
use Rattle.std.proofs.lemmas.Bool.{eqb-true}
use Rattle.gate_word.proofs.Moves.{enters, finds_shut}
use Rattle.gate_word.proofs.word.add.Goals as goal

pub fetch_add-requires : goal.fetch_add-requires
fetch_add-requires c = (c.requires.word.1, omega arith, enters _ _ _ _ c.requires.seat.0 c.requires.seat.1)

pub returns-clause-shut : goal.returns-clause-shut
returns-clause-shut c mark = eqb-true _ _ (finds_shut _ _ c.fetch_add.ensures.2.0 mark)
