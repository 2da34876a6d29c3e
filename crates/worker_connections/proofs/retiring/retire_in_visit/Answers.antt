-- In a visit the sessions are retired; and what is known of the routes is of the same table, and the right to call the desk is the same.
use Rattle.std.proofs.Common.{ℕ, Bool, sym, ap, subst, ◌∙◌, refl}
use Rattle.shared_routes.specs.Cells.{RoutesId}
use Rattle.shared_supply.specs.Workers.{Worker, is_visiting}
use Rattle.worker_connections.specs.Retiring.{RetiresIf}
use Rattle.worker_connections.proofs.Knowing.{retired_ties}
use Rattle.worker_connections.proofs.retiring.retire_in_visit.Goals as goal
use Rattle.worker_connections.proofs.retiring.retire_in_visit.Goals.{then-begin, else-begin}

pub returns-clause-retired : goal.returns-clause-retired
returns-clause-retired g c =
    let Retires : Bool → Worker → Type 0 = λ visits mid.
    RetiresIf g.B.Broker.group (record { saw_ledger = g.B.Seen.LedgerWitness.saw_ledger; saw_main = g.B.Seen.Witness.saw_main; saw_returns = g.B.Seen.Witness.saw_returns }) visits c.begin.new.self c.args.now mid in
    record {
      begun = c.begin.new.self;
      begins = c.begin.ensures.begun;
      mid = c.if-begin.supply;
      retires = elim c.if-begin.branch [
        | then-begin w ↦ subst (λ (mid : Worker). Retires (is_visiting c.begin.new.self) mid) (sym w.supply-is) (subst (λ visits. Retires visits w.retire_due.new.supply) (sym w.if-begin.true ∙ c.begin.ensures.told) w.retire_due.ensures.swept)
        | else-begin w ↦ subst (λ (mid : Worker). Retires (is_visiting c.begin.new.self) mid) (sym w.supply-is) (subst (λ visits. Retires visits c.begin.new.self) (sym w.if-begin.false ∙ c.begin.ensures.told) refl)
      ];
      leaves = c.end.ensures.left;
    }

pub returns-clause-routes : goal.returns-clause-routes
returns-clause-routes g c =
    ap (λ (ties : RoutesId × ℕ). ties.0)
    (retired_ties g.B.Broker.group (record { saw_ledger = g.B.Seen.LedgerWitness.saw_ledger; saw_main = g.B.Seen.Witness.saw_main; saw_returns = g.B.Seen.Witness.saw_returns }) c.args.supply.now c.end.new.self c.args.now (returns-clause-retired g c))

pub returns-clause-parts : goal.returns-clause-parts
returns-clause-parts g c =
    ap (λ (ties : RoutesId × ℕ). ties.1)
    (retired_ties g.B.Broker.group (record { saw_ledger = g.B.Seen.LedgerWitness.saw_ledger; saw_main = g.B.Seen.Witness.saw_main; saw_returns = g.B.Seen.Witness.saw_returns }) c.args.supply.now c.end.new.self c.args.now (returns-clause-retired g c))
