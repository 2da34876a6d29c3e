use Rattle.users.proofs.ReadBack.{read_back, admitted_back}
use Rattle.users.proofs.laws.made_lines_are_read.Goals as goal

pub returns-clause-read : goal.returns-clause-read
returns-clause-read c = read_back

pub returns-clause-admitted : goal.returns-clause-admitted
returns-clause-admitted c = admitted_back
