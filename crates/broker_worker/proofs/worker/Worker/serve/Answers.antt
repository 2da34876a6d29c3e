-- Where a sweep began, the sessions whose time was over were retired before its rounds, and something was offered after its inbound ones.
use Rattle.std.proofs.Common.{◌≡◌, Bool, true, false, refl, ap, subst, ◌∙◌, inl, inr}
use Rattle.broker_worker.specs.Offering.{OffersInSweep}
use Rattle.broker_worker.specs.Resting.{WorkerState}
use Rattle.broker_worker.specs.Retiring.{RetiresInSweep}
use Rattle.broker_worker.proofs.Offered.{more, same_moment}
use Rattle.worker_connections.specs.Serving.{ConnectionsState, ties_of}
use Rattle.worker_connections.specs.declared.sweeps.Sweeps.{Sweeps}
use Rattle.broker_worker.proofs.worker.Worker.serve.Goals as goal

pub returns-clause-offered : goal.returns-clause-offered
returns-clause-offered g c = by c.begin_sweep-all.result refl
  where
    by : (b : Bool) → c.begin_sweep-all.result ≡ b → OffersInSweep g.B.Broker.group (record { saw_ledger = g.B.Seen.LedgerWitness.saw_ledger; saw_main = g.B.Seen.Witness.saw_main; saw_returns = g.B.Seen.Witness.saw_returns }) g.T.Transport.counts g.T.Transport.given g.T.Transport.accepted c.args.self.now.connections c.share_out.new.self.connections
    by true is = inr (
      c.serve_due.new.self.connections,
      c.serve_due.ensures.goes.stays ∙ c.retire_if.ensures.goes.stays ∙ ap (λ (s : ConnectionsState g.row.T.Denot). ties_of s) c.begin_sweep-all.ensures.same
          ∙ ap (λ (w : WorkerState g.row.T.Denot). ties_of w.connections) c.self.view_is,
      c.share_out.ensures.offered is,
    )
    by false is = inl (
        c.share_out.ensures.goes.keeps.begun ∙ c.serve_due.ensures.goes.keeps.begun ∙ c.retire_if.ensures.goes.keeps.begun
        ∙ ap (λ (s : Sweeps). s.begun) (c.begin_sweep-all.ensures.in_time is).0
        ∙ ap (λ (w : WorkerState g.row.T.Denot). w.connections.sweeps.begun) c.self.view_is)

pub returns-clause-retired : goal.returns-clause-retired
returns-clause-retired g c =
    subst (λ (w : WorkerState g.row.T.Denot). RetiresInSweep g.B.Broker.group (record { saw_ledger = g.B.Seen.LedgerWitness.saw_ledger; saw_main = g.B.Seen.Witness.saw_main; saw_returns = g.B.Seen.Witness.saw_returns }) w.connections c.share_out.new.self.connections)
    c.self.view_is (by c.begin_sweep-all.result refl)
  where
    by : (b : Bool) → c.begin_sweep-all.result ≡ b → RetiresInSweep g.B.Broker.group (record { saw_ledger = g.B.Seen.LedgerWitness.saw_ledger; saw_main = g.B.Seen.Witness.saw_main; saw_returns = g.B.Seen.Witness.saw_returns }) c.self.inside.connections c.share_out.new.self.connections
    by true is = inr (
      c.begin_sweep-all.new.self,
      c.retire_if.new.self.connections,
      c.begin_sweep-all.ensures.same,
      same_moment _ c.self.inside.connections.sweeps c.begin_sweep-all.new.self.sweeps (c.begin_sweep-all.ensures.begins is),
      c.retire_if.ensures.retired is,
      more _ _ _ c.serve_due.ensures.goes c.share_out.ensures.goes,
    )
    by false is = inl (
        c.share_out.ensures.goes.keeps.begun ∙ c.serve_due.ensures.goes.keeps.begun ∙ c.retire_if.ensures.goes.keeps.begun
        ∙ ap (λ (s : Sweeps). s.begun) (c.begin_sweep-all.ensures.in_time is).0)
