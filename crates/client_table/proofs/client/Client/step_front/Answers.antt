-- What stood in front was stepped.
use Rattle.std.proofs.Common.{rules}
use Rattle.conn_engine.specs.declared.input.Input.TheVariants as inputs
use Rattle.client_table.proofs.client.Client.step_front.Goals as goal

pub returns-in-Ok-clause-stepped : goal.returns-in-Ok-clause-stepped
returns-in-Ok-clause-stepped g c = (inputs.Packet c.in-Ok-Some.packet, search rules, search rules)

pub returns-in-Ok-step_into-clause-stepped : goal.returns-in-Ok-step_into-clause-stepped
returns-in-Ok-step_into-clause-stepped g c = (inputs.Fault c.in-Err-Stream.fault, search rules, search rules)
