-- What is not written.
use Rattle.std.proofs.Common.{subst, rules}
use Rattle.client_table.specs.Clients.{IsGivenUp}
use Rattle.client_table.proofs.Given.{unsaid}
use Rattle.client_table.proofs.client.Client.give_up.Goals as goal

pub returns-in-Ok-clause-given : goal.returns-in-Ok-clause-given
returns-in-Ok-clause-given g c =
    subst (λ client. IsGivenUp g.S.Supply.call g.P.Place.slot_of c.args.supply.now client c.args.now c.args.input
    (record { conn = c.step.new.self; unread = c.self.inside.stream }) c.step.new.supply) c.self.view_is
    (unsaid g.S.Supply.call g.P.Place.slot_of c.args.supply.now c.step.new.supply (record { conn = c.self.inside.conn; unread = c.self.inside.stream })
    (record { conn = c.step.new.self; unread = c.self.inside.stream }) c.args.now c.args.input c.step.new.packets.items c.in-Ok._unsaid (search rules) (search rules) c.in-Ok.ensures.stepped)
