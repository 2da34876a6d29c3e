-- Each step keeps the rule of the channel with its witness: where it follows the step, what it saw still holds.
use Rattle.std.proofs.Common.{◌≡◌, ℕ, ◌-◌, ◌≤◌, List, [], ◌∷◌, ◌++◌, set, length, refl, sym, subst, arith}
use Rattle.crossbeam_channel.specs.Fifo.{Pushes, Pops, Forks, Merges, Learns, Held}
use Rattle.conn_channel.specs.declared.sent.Sent.{Sent}
use Rattle.conn_channel.specs.declared.view.PassView.{PassView}
use Rattle.conn_channel.specs.Rule.{first_pass_view, receiving_pass_view, no_pass_view, joined, Conserves, KnowsAll, MaySend, MayReceive, sending, receiving}
use Rattle.conn_channel.specs.Witnesses.{FollowsAll, FollowsReceiver, Saw}
use Rattle.conn_channel.proofs.Steps as step

module _ {T : Type 0} (saw : List (Sent T) → List (PassView T) → Type 0) where
  abbrev pub Watched : List (Sent T) → List (PassView T) → Type 0
  Watched items views = Conserves items views × saw items views

  pub begins : FollowsAll saw → Watched [] (first_pass_view ∷ [])
  begins follows = (step.begins, follows.opened)

  pub sends : (n pass : ℕ) (v : PassView T) (x : Sent T) → 1 ≤ v.parts → v.sends ≡ 1 → MaySend v x → FollowsAll saw → Pushes Watched n pass v x (λ w. w ≡ sending v x)
  sends n pass v x part right may follows items views room h at =
      let r = step.sends n pass v x part right may items views room h.0 at in
      let after = subst (λ w. Conserves (items ++ x ∷ []) (set views pass w)) r.2 r.1 in
      (sending v x, (after, follows.sends pass x items views v at h.0 after h.1), refl)

  pub receives : (pass : ℕ) (v : PassView T) → 1 ≤ v.parts → MayReceive v → FollowsReceiver saw pass → Pops Watched pass v (λ x w. w ≡ receiving v x)
  receives pass v part may follows x items views h at =
      let r = step.receives pass v part may x items views h.0 at in
      let after = subst (λ w. Conserves items (set views pass w)) r.2 r.1 in
      (receiving v x, (after, follows x items views v at h.0 after h.1), refl)

  pub cuts : (pass : ℕ) (v : PassView T) → 2 ≤ v.parts → FollowsAll saw → Forks Watched pass v (record v { parts = v.parts - 1 }) (receiving_pass_view [] 0)
  cuts pass v two follows items views h at = let after = step.cuts pass v two items views h.0 at in (after, follows.cuts pass items views v at h.0 after h.1)

  pub joins : (pass : ℕ) (v : PassView T) (other : ℕ) (w : PassView T) → 1 ≤ v.parts → w.sends ≡ 0 → FollowsAll saw → Merges Watched pass v other w (joined v w) no_pass_view
  joins pass v other w part no_right follows items views h at apart at' =
      let after = step.joins pass v other w part no_right items views h.0 at apart at' in
      (after, follows.joins pass other items views v w at apart at' h.0 after h.1)

  pub learns : (pass : ℕ) (v : PassView T) → v.parts ≡ 128 → v.sends ≡ 1 → Learns Watched pass v (KnowsAll v)
  learns pass v all right items views h at = step.learns pass v all right items views h.0 at

  -- a look shows how the channel stands
  pub looks : (pass : ℕ) (v : PassView T) → Learns Watched pass v (Saw saw v)
  looks pass v items views h at = record { views = views; pass = pass; there = at; holds = h.0; seen = h.1 }

  none_there : (items : List (Sent T)) → length items ≡ 0 → [] ≡ items
  none_there [] none = refl
  none_there (x ∷ rest) none = absurd (omega arith)

  -- where there was nothing, the channel was empty
  pub empty : (v : PassView T) → Held 0 (Saw saw v) → Saw saw v []
  empty v held = subst (Saw saw v) (sym (none_there held.0 held.1)) held.2
