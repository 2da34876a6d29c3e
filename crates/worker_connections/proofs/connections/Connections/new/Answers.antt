-- None was received, and all cells are free.
use Rattle.std.proofs.Common.{ℕ, length, None, refl, sym, subst, ap, ◌∙◌}
use Rattle.std.proofs.lemmas.List.{length-replicate}
use Rattle.worker_connections.proofs.Occupied.{replicate-occupied}
use Rattle.worker_connections.specs.Counting.{none_served}
use Rattle.worker_connections.specs.Serving.{IsAccounted}
use Rattle.worker_connections.proofs.Accounting.{fresh}
use Rattle.worker_connections.proofs.Chaining.{runs_from}
use Rattle.worker_connections.proofs.Swept.{free}
use Rattle.worker_connections.proofs.Wished.{none_wished}
use Rattle.worker_connections.proofs.connections.Connections.new.Goals as goal

pub invariant_of-result : goal.invariant_of-result
invariant_of-result g c =
    let Accounted : ℕ → Type 0 = λ received. IsAccounted received c.args.table none_served in (
      subst Accounted (sym (ap length c.requires.receiver)) (fresh c.args.table (replicate-occupied _ c.args.table c.requires.table)),
      free _ c.args.table _ c.requires.table refl refl refl,
      sym (ap length c.requires.table ∙ length-replicate (length c.args.members) None),
      none_wished _ c.args.table c.args.members c.requires.table,
      runs_from g.B.Broker.group (record { saw_ledger = g.B.Seen.LedgerWitness.saw_ledger; saw_main = g.B.Seen.Witness.saw_main; saw_returns = g.B.Seen.Witness.saw_returns }) g.T.Transport.counts g.T.Transport.given g.T.Transport.accepted c.args.first _ (length c.args.members) c.args.supply c.args.table c.args.receiver.received
          (g.Q.Poller.poller_calls c.args.poller) c.requires.table c.requires.receiver c.requires.supply c.requires.draining c.requires.unused c.requires.poller_calls refl,
    )
