-- An allocation failed in the step.
use Rattle.std.proofs.Common.{rules, inr}
use Rattle.client_table.proofs.client.Client.leave.Goals as goal

pub returns-in-Err-clause-left : goal.returns-in-Err-clause-left
returns-in-Err-clause-left g c = (search rules, inr (search rules))
