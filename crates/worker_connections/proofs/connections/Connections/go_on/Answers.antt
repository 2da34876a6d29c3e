-- A connection lives on, or has ended and is counted; and it went on at this moment.
use Rattle.std.proofs.Common.{length, refl, ap, subst, ◌∙◌, arith}
use Rattle.std.proofs.Math.ListN.{length-set}
use Rattle.group_queue.specs.Places.{PlaceState}
use Rattle.worker_connections.specs.Cells.{FollowsIn, InCell, Turns as TurnsIn}
use Rattle.shared_supply.specs.Calls.{Calls}
use Rattle.shared_supply.specs.Workers.{Worker, Begins, Leaves, is_visiting}
use Rattle.worker_connections.proofs.Accounting.{behind_round}
use Rattle.worker_connections.proofs.Chaining.{outcome, stays_at}
use Rattle.worker_connections.proofs.Swept.{rounds}
use Rattle.worker_connections.proofs.Ticking.{note_keeps}
use Rattle.worker_connections.proofs.Wished.{wished_noted}
use Rattle.worker_connections.specs.Serving.{ConnectionsState}
use Rattle.worker_connections.proofs.connections.Connections.go_on.Goals as goal

pub invariant_of-self : goal.invariant_of-self
invariant_of-self g c = (
  behind_round _ c.self.inside.table c.make_round-cell_outcome.new.table c.self.inside.served c.count_behind.new.self c.make_round-cell_outcome.result
      c.self.invariant.0 c.make_round-cell_outcome.ensures.count c.count_behind.ensures,
  rounds (Calls g.B.Broker.group (record { saw_ledger = g.B.Seen.LedgerWitness.saw_ledger; saw_main = g.B.Seen.Witness.saw_main; saw_returns = g.B.Seen.Witness.saw_returns })) Begins Leaves is_visiting (λ (p : PlaceState). p.group) g.T.Transport.counts g.T.Transport.given g.T.Transport.accepted
      c.self.inside.table c.make_round-cell_outcome.new.table c.args.cell c.len.result c.allow.new.self c.make_round-cell_outcome.new.supply c.make_round-cell_outcome.result
      c.self.inside.sweeps c.note.new.self c.self.invariant.1 c.make_round-cell_outcome.ensures.turns c.len.ensures c.note.ensures,
  omega (arith, c.self.invariant.2, c.make_round-cell_outcome.ensures.len, ap length c.note_held.ensures, ap length c.note_interest.ensures.2, length-set c.self.inside.members c.args.cell c.note_interest.ensures.0),
  wished_noted c.self.inside.table c.make_round-cell_outcome.new.table c.self.inside.members c.note_held.new.members c.args.cell c.make_round-cell_outcome.ensures.turns.before c.make_round-cell_outcome.ensures.turns.after c.note_interest.ensures.0
      c.self.invariant.2 c.self.invariant.3 c.make_round-cell_outcome.ensures.turns.has c.make_round-cell_outcome.ensures.turns.is c.note_interest.ensures.1 (c.note_held.ensures ∙ c.note_interest.ensures.2),
  stays_at g.B.Broker.group (record { saw_ledger = g.B.Seen.LedgerWitness.saw_ledger; saw_main = g.B.Seen.Witness.saw_main; saw_returns = g.B.Seen.Witness.saw_returns }) g.T.Transport.counts g.T.Transport.given g.T.Transport.accepted c.self.inside.first c.self.inside.sweeps.latest c.note.new.self.latest c.make_round-cell_outcome.new.supply c.make_round-cell_outcome.new.table c.self.inside.receiver.received
      c.count_behind.new.self (g.Q.Poller.poller_calls c.settle.new.poller) (g.Q.Poller.poller_calls c.settle.new.poller) refl (note_keeps c.args.cell c.len.result c.self.inside.sweeps c.note.new.self c.self.invariant.1.swept c.note.ensures).latest
      (outcome g.B.Broker.group (record { saw_ledger = g.B.Seen.LedgerWitness.saw_ledger; saw_main = g.B.Seen.Witness.saw_main; saw_returns = g.B.Seen.Witness.saw_returns }) g.T.Transport.counts g.T.Transport.given g.T.Transport.accepted c.self.inside.first c.self.inside.sweeps.latest c.self.inside.supply c.allow.new.self c.make_round-cell_outcome.new.supply c.args.most c.self.inside.table c.make_round-cell_outcome.new.table
      c.self.inside.receiver.received c.self.inside.served c.count_behind.new.self (g.Q.Poller.poller_calls c.self.inside.poller) (g.Q.Poller.poller_calls c.settle.new.poller)
      c.args.cell c.make_round-cell_outcome.result
      c.self.invariant.4 c.allow.ensures c.make_round-cell_outcome.ensures.turns c.count_behind.ensures c.settle.ensures.poller_calls),
)

pub returns-clause-made : goal.returns-clause-made
returns-clause-made g c =
    let TurnsAs : Worker → ConnectionsState g.row.T.Denot → Type 0 = λ allowed old. InCell old.cells c.args.cell
    (λ one other. TurnsIn (Calls g.B.Broker.group (record { saw_ledger = g.B.Seen.LedgerWitness.saw_ledger; saw_main = g.B.Seen.Witness.saw_main; saw_returns = g.B.Seen.Witness.saw_returns })) Begins Leaves is_visiting (λ (p : PlaceState). p.group) g.T.Transport.counts g.T.Transport.given g.T.Transport.accepted old.sweeps.latest one
    allowed c.make_round-cell_outcome.result other c.make_round-cell_outcome.new.supply) c.make_round-cell_outcome.new.table in
    let Goes : ConnectionsState g.row.T.Denot → Type 0 = λ old. InCell old.cells c.args.cell
    (λ one other. FollowsIn g.T.Transport.given g.T.Transport.accepted c.args.direction old.sweeps.latest one c.make_round-cell_outcome.result other) c.make_round-cell_outcome.new.table in
    let allowed = c.allow.ensures ∙ ap (λ (state : ConnectionsState g.row.T.Denot). record state.supply { allowance = c.args.most }) c.self.view_is in (
      c.make_round-cell_outcome.result,
      c.settle.ensures.told,
      record {
        turns = subst (λ (w : Worker). TurnsAs w c.args.self.now) allowed (subst (TurnsAs c.allow.new.self) c.self.view_is c.make_round-cell_outcome.ensures.turns);
        way = subst Goes c.self.view_is c.make_round-cell_outcome.ensures.way;
      },
    )
