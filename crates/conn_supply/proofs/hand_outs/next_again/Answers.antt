-- What is sent again has an identifier of the window's; where there is no memory for its packet, it is the one that was sent again.
use Rattle.std.proofs.Common.{[], ◌∷◌, rules}
use Rattle.conn_supply.proofs.Windows.{resent_in_range}
use Rattle.conn_supply.proofs.hand_outs.next_again.Goals as goal

pub identifier_of-requires : goal.identifier_of-requires
identifier_of-requires c =
    resent_in_range c.args.window.now (c.in-Some.identifier, c.in-Some.envelope.now) c.len-held.ensures.sound c.in-Some.ensures.next

pub returns-in-Err-clause-begun : goal.returns-in-Err-clause-begun
returns-in-Err-clause-begun c = ((c.in-Some.identifier, c.in-Some.envelope.now) ∷ [], (c.in-Some.ensures.next, search rules))
