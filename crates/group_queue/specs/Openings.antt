-- Passes of a group's queues, before they are a port's or a place's. No public clause cites this module.
use Rattle.std.specs.Prelude.{◌≡◌, ℕ, ◌-◌, []}
use Rattle.crossbeam_queue.specs.Passes.{Pass, view}
use Rattle.group_queue.specs.declared.posted.Posted.{Posted}
use Rattle.group_queue.specs.declared.view.View.{View}
use Rattle.group_queue.specs.declared.view.Name.TheVariants.{Place}
use Rattle.group_queue.specs.declared.place.Passes.{Passes}
use Rattle.group_queue.specs.Views.{one, keeper}
use Rattle.group_queue.specs.Returns.{bag, bag_of}
use Rattle.group_queue.specs.Ports.{GroupId}
use Rattle.group_queue.specs.Takers.{AreBare, hands_of}

-- a pass of the group's main queue
abbrev pub IsPassTo : GroupId → Pass Posted View → Type 0
IsPassTo group pass = (pass.table_id ≡ group.main) × (pass.me.1 ≡ [])

-- passes of the group's queues that carry nothing
pub record AreOf (group : GroupId) (passes : Passes) : Type 0 where
  pub hands : hands_of passes ≡ record { main = group.main; returns = group.returns }
  pub bare : AreBare passes

-- what is left of the passes of who opened the group, who gave all ports and so many places away
pub record AreLeftOf (group : GroupId) (places : ℕ) (left : Passes) : Type 0 where
  pub of : AreOf group left
  pub main : view left.main ≡ keeper group.shape.ports places
  pub parts : bag_of left.returns ≡ bag (64 - places) [] []

-- the passes of a place that was handed nothing
pub record AreNewPasses (group : GroupId) (place : ℕ) (passes : Passes) : Type 0 where
  pub of : AreOf group passes
  pub main : view passes.main ≡ one (Place place) []
  pub part : bag_of passes.returns ≡ bag 1 [] []
