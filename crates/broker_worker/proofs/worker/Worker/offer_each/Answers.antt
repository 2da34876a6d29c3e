-- One group more was offered something.
use Rattle.std.proofs.Common.{below_more, arith}
use Rattle.broker_worker.specs.Offering.{Offers}
use Rattle.broker_worker.proofs.Offered.{here, more, still, wider}
use Rattle.broker_worker.proofs.worker.Worker.offer_each.Goals as goal

pub slots-init : goal.slots-init
slots-init g c = record { goes = still _; offered = λ slot below. absurd (omega arith) }

pub slots-preserved : goal.slots-preserved
slots-preserved g c =
    let was = c.slots.invariant in
    let goes = c.offer.ensures.goes in
    record {
      goes = more _ _ _ was.goes goes;
      offered =
          below_more _ _
          (λ slot below. wider (Offers g.B.Broker.group (record { saw_ledger = g.B.Seen.LedgerWitness.saw_ledger; saw_main = g.B.Seen.Witness.saw_main; saw_returns = g.B.Seen.Witness.saw_returns }) g.T.Transport.counts g.T.Transport.given g.T.Transport.accepted slot) _ _ _ _ (still _) (was.offered slot below) goes)
          (here (Offers g.B.Broker.group (record { saw_ledger = g.B.Seen.LedgerWitness.saw_ledger; saw_main = g.B.Seen.Witness.saw_main; saw_returns = g.B.Seen.Witness.saw_returns }) g.T.Transport.counts g.T.Transport.given g.T.Transport.accepted c.slots.slot) _ _ _ _ was.goes c.offer.ensures.offered (still _));
    }
