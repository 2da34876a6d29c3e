-- The one with the fewest was offered a message, or another one; or no member has room.
use Rattle.std.proofs.Common.{subst, inl, arith}
use Rattle.broker_worker.specs.Offering.{IsOffered, Offers}
use Rattle.broker_worker.specs.Resting.{WorkerState}
use Rattle.broker_worker.proofs.Offered.{here, nobody_takes, offers_later, still}
use Rattle.broker_worker.proofs.worker.Worker.offer.Goals as goal

pub returns-then-not-has_taker-clause-offered : goal.returns-then-not-has_taker-clause-offered
returns-then-not-has_taker-clause-offered g c =
    let none = c.has_taker.ensures (grind arith) c.requires in
    subst (λ (w : WorkerState g.row.T.Denot). Offers g.B.Broker.group (record { saw_ledger = g.B.Seen.LedgerWitness.saw_ledger; saw_main = g.B.Seen.Witness.saw_main; saw_returns = g.B.Seen.Witness.saw_returns }) g.T.Transport.counts g.T.Transport.given g.T.Transport.accepted c.args.slot w.connections w.connections) c.self.view_is
    (nobody_takes g.B.Broker.group (record { saw_ledger = g.B.Seen.LedgerWitness.saw_ledger; saw_main = g.B.Seen.Witness.saw_main; saw_returns = g.B.Seen.Witness.saw_returns }) g.T.Transport.counts g.T.Transport.given g.T.Transport.accepted c.args.slot c.self.inside.connections (λ taker. none (c.members.ensures c.args.slot c.requires taker)))

pub returns-then-offer_to-clause-offered : goal.returns-then-offer_to-clause-offered
returns-then-offer_to-clause-offered g c = inl (here (IsOffered g.B.Broker.group (record { saw_ledger = g.B.Seen.LedgerWitness.saw_ledger; saw_main = g.B.Seen.Witness.saw_main; saw_returns = g.B.Seen.Witness.saw_returns }) g.T.Transport.counts g.T.Transport.given g.T.Transport.accepted c.args.slot) _ _ _ _ (still _) (c.offer_to.ensures.yes (grind arith)) (still _))

pub returns-clause-offered : goal.returns-clause-offered
returns-clause-offered g c = offers_later g.B.Broker.group (record { saw_ledger = g.B.Seen.LedgerWitness.saw_ledger; saw_main = g.B.Seen.Witness.saw_main; saw_returns = g.B.Seen.Witness.saw_returns }) g.T.Transport.counts g.T.Transport.given g.T.Transport.accepted c.args.slot _ _ _ c.offer_to.ensures.goes c.offer_to_any.ensures.offered
