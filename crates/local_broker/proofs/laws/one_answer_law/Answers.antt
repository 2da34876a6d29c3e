use Rattle.local_broker.proofs.OneAnswer.{one_answer, one_close_of_all}
use Rattle.local_broker.proofs.OneBeginning.{one_new, one_told}
use Rattle.local_broker.proofs.laws.one_answer_law.Goals as goal

pub returns : goal.returns
returns c =
    record {
      new = λ capacity shares one other a b. one_new capacity shares one other a b;
      one = λ one other one' other' supply_call its alike law asks had also a b. one_answer one other one' other' alike supply_call its law asks had also a b;
      closed = λ one other one' other' alike a b. one_close_of_all one other one' other' alike a b;
      told = λ one other slot line line' alike a b. one_told one other slot line line' alike a b;
    }
