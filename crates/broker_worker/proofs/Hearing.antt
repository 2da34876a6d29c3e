-- One group after the other is heard.
use Rattle.std.proofs.Common.{◌≡◌, ℕ, ◌+◌, Bool, List, [], ◌∷◌, ◌++◌, length, refl, ap, subst, arith}
use Rattle.shared_supply.specs.declared.wakes.Wakes.{Wakes}
use Rattle.worker_bells.specs.Ringing.{ListeningState, HearsAt}
use Rattle.worker_connections.specs.Members.{one_called_if}
use Rattle.broker_worker.specs.Resting.{CountsCalls}

-- one group more
pub call_more : (slot : ℕ) (heard : Bool) (before : List Bool) (listenings listenings' listenings'' : List ListeningState) (wakes wakes' : Wakes) → CountsCalls slot before listenings wakes listenings' wakes'
    → HearsAt (slot + length before) listenings' heard listenings'' → CountsCalls slot (before ++ heard ∷ []) listenings wakes listenings'' (one_called_if heard (slot + length before) wakes')
call_more slot heard [] listenings listenings' listenings'' wakes wakes' counted one = (
  listenings'',
  subst (λ (e : List ListeningState). HearsAt slot e heard listenings'') counted.0 (subst (λ n. HearsAt n listenings' heard listenings'') (omega arith) one),
  (refl, subst (λ n. one_called_if heard n wakes' ≡ one_called_if heard slot wakes) (omega arith) (ap (λ (w : Wakes). one_called_if heard slot w) counted.1)),
)
call_more slot heard (first ∷ before) listenings listenings' listenings'' wakes wakes' counted one = (
  counted.0,
  counted.1,
  subst (λ n. CountsCalls (slot + 1) (before ++ heard ∷ []) counted.0 (one_called_if first slot wakes) listenings'' (one_called_if heard n wakes')) (omega arith)
      (call_more (slot + 1) heard before counted.0 listenings' listenings'' (one_called_if first slot wakes) wakes' counted.2 (subst (λ n. HearsAt n listenings' heard listenings'') (omega arith) one)),
)
