-- Nothing was said where the piece was not taken.
use Rattle.std.proofs.Common.{rules, refl, sym, [], inl, append-nil}
use Rattle.client_table.proofs.client.Client.receive.Goals as goal

pub returns-in-Err-Memory-clause-received : goal.returns-in-Err-Memory-clause-received
returns-in-Err-Memory-clause-received g c = ([], sym (append-nil c.args.outputs.now.items), inl (search rules, refl))
