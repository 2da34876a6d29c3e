-- One group more is heard.
use Rattle.std.proofs.Common.{◌≡◌, ℕ, ◌+◌, [], ◌∷◌, ◌++◌, length, length-append, ap, sym, subst, ◌∙◌, rules, arith}
use Rattle.shared_supply.specs.declared.wakes.Wakes.{Wakes}
use Rattle.worker_bells.specs.Ringing.{HearsAt}
use Rattle.worker_connections.specs.Serving.{ConnectionsState, wakes_of, with_wakes}
use Rattle.worker_connections.specs.Members.{one_called_if}
use Rattle.broker_worker.specs.Resting.{CountsCalls}
use Rattle.broker_worker.proofs.Hearing.{call_more}
use Rattle.broker_worker.proofs.worker.Worker.hear.Goals as goal

pub slots-preserved : goal.slots-preserved
slots-preserved g c =
    let before = c.slots.invariant.heard in
    let heard = c.hear-heard.result in
    let old = c.slots.self-inside in
    let at : c.slots.slot ≡ 0 + length before = omega (arith, c.slots.invariant.all) in
    let Counted : Wakes → Type 0 = λ wakes. CountsCalls 0 (before ++ heard ∷ []) c.args.self.now.bells.listenings (wakes_of c.args.self.now.connections) c.hear-heard.new.self.listenings wakes in
    let At : ℕ → Type 0 = λ slot. HearsAt slot old.own_bells.listenings heard c.hear-heard.new.self.listenings in
    record {
      heard = before ++ heard ∷ [];
      all = omega (arith, length-append before (heard ∷ []), c.slots.invariant.all);
      counted = subst Counted
          (ap (λ n. one_called_if heard n (wakes_of old.connections)) (sym at)
          ∙ sym (ap (λ (s : ConnectionsState g.row.T.Denot). wakes_of s) {y = with_wakes old.connections (one_called_if heard c.slots.slot (wakes_of old.connections))} c.count_call_if.ensures))
          (call_more 0 heard before c.args.self.now.bells.listenings old.own_bells.listenings c.hear-heard.new.self.listenings (wakes_of c.args.self.now.connections) (wakes_of old.connections)
          c.slots.invariant.counted (subst At at c.hear-heard.ensures.heard));
      connections = search rules;
      ringings = c.hear-heard.ensures.ringings ∙ c.slots.invariant.ringings;
    }
