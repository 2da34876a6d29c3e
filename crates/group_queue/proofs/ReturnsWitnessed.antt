-- Each step keeps the rule of the returns queue with its witness: where it follows the step, what it saw still holds.
use Rattle.std.proofs.Common.{ℕ, ◌-◌, ◌<◌, ◌≤◌, List, [], ◌∷◌, ◌++◌, set, subst}
use Rattle.crossbeam_queue.specs.Fifo.{Pushes, Pops, Forks, Merges, Learns}
use Rattle.group_queue.specs.declared.posted.Posted.{Posted}
use Rattle.group_queue.specs.declared.view.Bag.{Bag}
use Rattle.group_queue.specs.Returns.{bag, joined, Gives, StandsBack, PushesBack, PopsBack}
use Rattle.group_queue.specs.Witnesses.{FollowsPart, FollowsReturns, SawReturns}
use Rattle.group_queue.proofs.ReturnsSteps.{pushes_back, pops_back, cuts_part, joins_parts}

module _ (saw : List Posted → List Bag → Type 0) where
  abbrev pub Watched : List Posted → List Bag → Type 0
  Watched items views = Gives items views × saw items views

  pub learns_seen : (pass : ℕ) (v : Bag) → Learns Watched pass v (SawReturns saw v)
  learns_seen pass v items views h at = record { views = views; pass = pass; there = at; holds = h.0; seen = h.1 }

  -- what was seen stood so
  pub stands_seen : (v : Bag) (items : List Posted) → SawReturns saw v items → StandsBack v items
  stands_seen v items s = record { views = s.views; pass = s.pass; there = s.there; holds = s.holds }

  pub pushes_seen : (n pass : ℕ) (v : Bag) (x : Posted) → 1 ≤ v.parts → x.job.number < 18446744073709551615 → FollowsPart saw pass → Pushes Watched n pass v x (PushesBack v x)
  pushes_seen n pass v x some_part few follows items views room h at =
      let r = pushes_back n pass v x some_part few items views room h.0 at in
      let after = subst (λ u. Gives (items ++ x ∷ []) (set views pass u)) r.2.is r.1 in
      (bag v.parts (v.pushed ++ x ∷ []) v.popped, (after, follows.pushes items views v x at h.0 after h.1), subst (PushesBack v x) r.2.is r.2)

  pub pops_seen : (pass : ℕ) (v : Bag) → 1 ≤ v.parts → FollowsPart saw pass → Pops Watched pass v (PopsBack v)
  pops_seen pass v some_part follows x items views h at =
      let r = pops_back pass v some_part x items views h.0 at in
      let after = subst (λ u. Gives items (set views pass u)) r.2.is r.1 in
      (bag v.parts v.pushed (v.popped ++ x ∷ []), (after, follows.pops items views v x at h.0 after h.1), subst (PopsBack v x) r.2.is r.2)

  pub cuts_seen : (pass : ℕ) (v : Bag) → 2 ≤ v.parts → FollowsReturns saw → Forks Watched pass v (bag (v.parts - 1) v.pushed v.popped) (bag 1 [] [])
  cuts_seen pass v two follows items views h at = let after = cuts_part pass v two items views h.0 at in (after, follows.cuts items views pass v at h.0 after h.1)

  pub joins_seen : (pass : ℕ) (v : Bag) (other : ℕ) (w : Bag) → 1 ≤ v.parts → FollowsReturns saw → Merges Watched pass v other w (joined v w) (bag 0 [] [])
  joins_seen pass v other w some_part follows items views h at apart at' =
      let after = joins_parts pass v other w some_part items views h.0 at apart at' in
      (after, follows.joins items views pass other v w at at' apart h.0 after h.1)
