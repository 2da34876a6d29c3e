-- One client more was asked, or one was offered a message.
use Rattle.std.proofs.Common.{length, below_more, ap, inl, arith}
use Rattle.broker_worker.specs.Resting.{WorkerState}
use Rattle.broker_worker.specs.Offering.{IsAsked, IsOffered}
use Rattle.broker_worker.proofs.Offered.{here, more, still, wider}
use Rattle.broker_worker.proofs.worker.Worker.offer_to_any.Goals as goal

pub cells-init : goal.cells-init
cells-init g c = record { goes = still _; asked = λ cell below. absurd (omega arith) }

pub cells-preserved : goal.cells-preserved
cells-preserved g c =
    let was = c.cells.invariant in
    let goes = c.offer_to.ensures.goes in
    record {
      goes = more _ _ _ was.goes goes;
      asked =
          below_more _ _
          (λ cell below. wider (IsAsked g.B.Broker.group (record { saw_ledger = g.B.Seen.LedgerWitness.saw_ledger; saw_main = g.B.Seen.Witness.saw_main; saw_returns = g.B.Seen.Witness.saw_returns }) g.T.Transport.counts g.T.Transport.given g.T.Transport.accepted c.args.slot cell) _ _ _ _ (still _) (was.asked cell below) goes)
          (here (IsAsked g.B.Broker.group (record { saw_ledger = g.B.Seen.LedgerWitness.saw_ledger; saw_main = g.B.Seen.Witness.saw_main; saw_returns = g.B.Seen.Witness.saw_returns }) g.T.Transport.counts g.T.Transport.given g.T.Transport.accepted c.args.slot c.cells.cell) _ _ _ _ was.goes (c.offer_to.ensures.no (grind arith) (omega (arith, was.goes.count, c.len-cell-end.ensures, ap (λ (w : WorkerState g.row.T.Denot). length w.connections.cells) c.self.view_is))) (still _));
    }

pub returns-then-offer_to-clause-offered : goal.returns-then-offer_to-clause-offered
returns-then-offer_to-clause-offered g c = inl (here (IsOffered g.B.Broker.group (record { saw_ledger = g.B.Seen.LedgerWitness.saw_ledger; saw_main = g.B.Seen.Witness.saw_main; saw_returns = g.B.Seen.Witness.saw_returns }) g.T.Transport.counts g.T.Transport.given g.T.Transport.accepted c.args.slot) _ _ _ _ c.cells.invariant.goes (c.offer_to.ensures.yes (grind arith)) (still _))
