-- A witness of a group's queues: what it saw, and at which steps it still holds. `saw items views` is what it saw: of what a
-- queue holds, and of what each pass knows.
use Rattle.std.specs.Prelude.{◌≡◌, ℕ, ◌+◌, ◌-◌, false, List, [], ◌∷◌, ◌++◌, slice_set, ⊤}
use mathlib.Core.Option.{some}
use lib.ListN.{get_elem?}
use Rattle.group_queue.specs.declared.posted.Posted.{Posted}
use Rattle.group_queue.specs.declared.view.Bag.{Bag}
use Rattle.group_queue.specs.declared.view.Name.TheVariants.{Port, Place}
use Rattle.group_queue.specs.declared.view.View.{View}
use Rattle.group_queue.specs.Views.{one, keeper, grown, joined, nobody, IsOf, IsEnding}
use Rattle.group_queue.specs.Past.{HasPast}
use Rattle.group_queue.specs.Returns.{bag, Gives}
use Rattle.group_queue.specs.Returns.{joined as joined_bags}

module _ (saw : List Posted → List View → Type 0) where
  -- what it saw of the main queue still holds after this step, where the queue's rule does
  abbrev pub SeesMain : List Posted → List View → List Posted → List View → Type 0
  SeesMain items views items' views' = HasPast items views → HasPast items' views' → saw items views → saw items' views'

  -- it follows what this port pushes
  abbrev pub FollowsPort : ℕ → Type 0
  FollowsPort port = (items : List Posted) (views : List View) (pass : ℕ) (v : View) (posted : Posted) → IsOf (Port port) v → get_elem? views pass ≡ some v
      → SeesMain items views (items ++ posted ∷ []) (slice_set views pass (grown v posted))

  -- it follows what this place pops
  abbrev pub FollowsPlace : ℕ → Type 0
  FollowsPlace place = (items : List Posted) (views : List View) (pass : ℕ) (v : View) (posted : Posted) → IsOf (Place place) v → get_elem? views pass ≡ some v
      → SeesMain (posted ∷ items) views items (slice_set views pass (grown v posted))

  -- it saw the main queue when it was opened, and follows each step: of each port, of each place, and of who opens and ends the group
  pub record FollowsMain : Type 0 where
    pub opened : saw [] (keeper 0 0 ∷ [])
    pub ports : (port : ℕ) → FollowsPort port
    pub places : (place : ℕ) → FollowsPlace place
    pub port_cuts : (items : List Posted) (views : List View) (pass : ℕ) (v : View) → get_elem? views pass ≡ some v → v ≡ keeper v.ports v.places
        → SeesMain items views items (slice_set views pass (keeper (v.ports + 1) v.places) ++ one (Port v.ports) [] ∷ [])
    pub place_cuts : (items : List Posted) (views : List View) (pass : ℕ) (v : View) → get_elem? views pass ≡ some v → v ≡ keeper v.ports v.places
        → SeesMain items views items (slice_set views pass (keeper v.ports (v.places + 1)) ++ one (Place v.places) [] ∷ [])
    pub joins : (items : List Posted) (views : List View) (pass other : ℕ) (v w : View) → get_elem? views pass ≡ some v → get_elem? (slice_set views pass (joined v w)) other ≡ some w
        → ¬ (other ≡ pass) → w.keeps ≡ false → SeesMain items views items (slice_set (slice_set views pass (joined v w)) other nobody)
    pub ends : (items : List Posted) (views : List View) (pass : ℕ) (v : View) (posted : Posted) → IsEnding v → get_elem? views pass ≡ some v
        → SeesMain (posted ∷ items) views items (slice_set views pass (grown v posted))

  -- the main queue stood so, at a moment at which some pass had this view, and the witness saw it
  pub record SawMain (v : View) (items : List Posted) : Type 0 where
    pub views : List View
    pub pass : ℕ
    pub there : get_elem? views pass ≡ some v
    pub holds : HasPast items views
    pub seen : saw items views

module _ (saw : List Posted → List Bag → Type 0) where
  -- what it saw of the returns queue still holds after this step, where the queue's rule does
  abbrev pub SeesReturns : List Posted → List Bag → List Posted → List Bag → Type 0
  SeesReturns items views items' views' = Gives items views → Gives items' views' → saw items views → saw items' views'

  -- it follows what this pass of the returns queue pushes and pops
  pub record FollowsPart (pass : ℕ) : Type 0 where
    pub pushes : (items : List Posted) (views : List Bag) (v : Bag) (posted : Posted) → get_elem? views pass ≡ some v
        → SeesReturns items views (items ++ posted ∷ []) (slice_set views pass (bag v.parts (v.pushed ++ posted ∷ []) v.popped))
    pub pops : (items : List Posted) (views : List Bag) (v : Bag) (posted : Posted) → get_elem? views pass ≡ some v
        → SeesReturns (posted ∷ items) views items (slice_set views pass (bag v.parts v.pushed (v.popped ++ posted ∷ [])))

  -- it saw the returns queue when it was opened, and follows each step of each pass
  pub record FollowsReturns : Type 0 where
    pub opened : saw [] (bag 64 [] [] ∷ [])
    pub parts : (pass : ℕ) → FollowsPart pass
    pub cuts : (items : List Posted) (views : List Bag) (pass : ℕ) (v : Bag) → get_elem? views pass ≡ some v
        → SeesReturns items views items (slice_set views pass (bag (v.parts - 1) v.pushed v.popped) ++ bag 1 [] [] ∷ [])
    pub joins : (items : List Posted) (views : List Bag) (pass other : ℕ) (v w : Bag) → get_elem? views pass ≡ some v → get_elem? (slice_set views pass (joined_bags v w)) other ≡ some w → ¬ (other ≡ pass)
        → SeesReturns items views items (slice_set (slice_set views pass (joined_bags v w)) other (bag 0 [] []))

  -- the returns queue stood so, at a moment at which some pass had this view, and the witness saw it
  pub record SawReturns (v : Bag) (items : List Posted) : Type 0 where
    pub views : List Bag
    pub pass : ℕ
    pub there : get_elem? views pass ≡ some v
    pub holds : Gives items views
    pub seen : saw items views

-- a witness that sees everything follows all
pub any_main : FollowsMain (λ items views. ⊤)
any_main = record {
  opened = tt;
  ports = (λ port items views pass v posted of at before after seen. tt);
  places = (λ place items views pass v posted of at before after seen. tt);
  port_cuts = (λ items views pass v at is before after seen. tt);
  place_cuts = (λ items views pass v at is before after seen. tt);
  joins = (λ items views pass other v w at at' apart given before after seen. tt);
  ends = (λ items views pass v posted ending at before after seen. tt);
}

pub any_returns : FollowsReturns (λ items views. ⊤)
any_returns = record {
  opened = tt;
  parts = (λ pass. record { pushes = (λ items views v posted at before after seen. tt); pops = (λ items views v posted at before after seen. tt) });
  cuts = (λ items views pass v at before after seen. tt);
  joins = (λ items views pass other v w at at' apart before after seen. tt);
}
