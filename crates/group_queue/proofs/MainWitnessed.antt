-- Each step keeps the rule of the main queue with its witness: where it follows the step, what it saw still holds.
use Rattle.std.proofs.Common.{◌≡◌, ℕ, ◌+◌, ◌<◌, List, [], ◌∷◌, ◌++◌, length, set, subst}
use Rattle.std.specs.Prelude.{false}
use Rattle.crossbeam_queue.specs.Fifo.{Pushes, Pops, Forks, Merges, Learns}
use Rattle.group_queue.specs.declared.posted.Posted.{Posted}
use Rattle.group_queue.specs.declared.view.Name.TheVariants.{Port, Place}
use Rattle.group_queue.specs.declared.view.View.{View}
use Rattle.group_queue.specs.Views.{one, keeper, joined, nobody, grown, list_in, IsOf, IsEnding}
use Rattle.group_queue.specs.Past.{HasPast, Stands, Adds, Takes}
use Rattle.group_queue.specs.Witnesses.{FollowsPort, FollowsPlace, FollowsMain, SawMain}
use Rattle.group_queue.proofs.MainSteps.{pushes, pops, pops_left}
use Rattle.group_queue.proofs.MainCuts.{cuts_port, cuts_place}
use Rattle.group_queue.proofs.MainJoins.{joins}

module _ (saw : List Posted → List View → Type 0) where
  abbrev pub Watched : List Posted → List View → Type 0
  Watched items views = HasPast items views × saw items views

  pub learns_main : (pass : ℕ) (v : View) → Learns Watched pass v (SawMain saw v)
  learns_main pass v items views h at = record { views = views; pass = pass; there = at; holds = h.0; seen = h.1 }

  -- who ends the group learns how the queue stood
  pub learns_left : (pass : ℕ) (v : View) → Learns Watched pass v (Stands v)
  learns_left pass v items views h at = record { views = views; pass = pass; there = at; holds = h.0 }

  pub pushes_main : (capacity pass : ℕ) (v : View) (x : Posted) → IsOf (Port x.job.port) v → x.job.number ≡ length (list_in v) → x.job.number < 1099511627776 → FollowsPort saw x.job.port
      → Pushes Watched capacity pass v x (Adds v x)
  pushes_main capacity pass v x is next few follows items views room h at =
      let r = pushes capacity pass v x is next few items views room h.0 at in
      let after = subst (λ u. HasPast (items ++ x ∷ []) (set views pass u)) r.2.is r.1 in
      (grown v x, (after, follows items views pass v x is at h.0 after h.1), subst (Adds v x) r.2.is r.2)

  pub pops_main : (pass : ℕ) (v : View) (place : ℕ) → IsOf (Place place) v → FollowsPlace saw place → Pops Watched pass v (Takes v)
  pops_main pass v place is follows x items views h at =
      let r = pops pass v place is x items views h.0 at in
      let after = subst (λ u. HasPast items (set views pass u)) r.2.is r.1 in
      (grown v x, (after, follows items views pass v x is at h.0 after h.1), subst (Takes v x) r.2.is r.2)

  pub pops_end : (pass : ℕ) (v : View) → IsEnding v → FollowsMain saw → Pops Watched pass v (Takes v)
  pops_end pass v is follows x items views h at =
      let r = pops_left pass v is x items views h.0 at in
      let after = subst (λ u. HasPast items (set views pass u)) r.2.is r.1 in
      (grown v x, (after, follows.ends items views pass v x is at h.0 after h.1), subst (Takes v x) r.2.is r.2)

  pub port_cut : (pass : ℕ) (v : View) → v ≡ keeper v.ports v.places → FollowsMain saw → Forks Watched pass v (keeper (v.ports + 1) v.places) (one (Port v.ports) [])
  port_cut pass v is follows items views h at = let after = cuts_port pass v is items views h.0 at in (after, follows.port_cuts items views pass v at is h.0 after h.1)

  pub place_cut : (pass : ℕ) (v : View) → v ≡ keeper v.ports v.places → FollowsMain saw → Forks Watched pass v (keeper v.ports (v.places + 1)) (one (Place v.places) [])
  place_cut pass v is follows items views h at = let after = cuts_place pass v is items views h.0 at in (after, follows.place_cuts items views pass v at is h.0 after h.1)

  pub joins_main : (pass : ℕ) (v : View) (other : ℕ) (w : View) → w.keeps ≡ false → FollowsMain saw → Merges Watched pass v other w (joined v w) nobody
  joins_main pass v other w given follows items views h at apart at' =
      let after = joins pass v other w given items views h.0 at apart at' in
      (after, follows.joins items views pass other v w at at' apart given h.0 after h.1)
