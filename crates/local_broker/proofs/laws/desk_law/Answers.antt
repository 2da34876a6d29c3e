use Rattle.local_broker.proofs.Happened.{few_all_along, law_all_along, new_desk, new_few}
use Rattle.local_broker.proofs.laws.desk_law.Goals as goal

pub returns-clause-kept : goal.returns-clause-kept
returns-clause-kept c capacity shares happenings first b new all = law_all_along happenings first b (new_desk capacity shares first new) all

pub returns-clause-few : goal.returns-clause-few
returns-clause-few c capacity shares happenings first b new all =
    few_all_along happenings first b (new_desk capacity shares first new) (new_few capacity shares first new) all
