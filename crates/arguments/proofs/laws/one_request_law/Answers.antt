use Rattle.arguments.proofs.OneRequest.{exclusive, one}
use Rattle.arguments.proofs.laws.one_request_law.Goals as goal

pub returns : goal.returns
returns c = record { one = one; exclusive = exclusive }
