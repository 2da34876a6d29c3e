-- The rule of the returns queue: what was given back was handed out again, or stands in the queue.
use Rattle.std.specs.Prelude.{◌≡◌, ℕ, ◌+◌, List, [], ◌∷◌, ◌++◌, sum_by, Option, All, ◌<◌}
use Rattle.std.proofs.Common.{Global}
use mathlib.Core.Option.{some}
use lib.ListN.{get_elem?}
use Rattle.atomic_blocks.specs.declared.web.Seat.{Seat}
use Rattle.crossbeam_queue.specs.declared.seg_queue.Going.{Going}
use Rattle.group_queue.specs.declared.posted.Posted.{Posted}
use Rattle.group_queue.specs.declared.view.Bag.{Bag}

abbrev pub bag : ℕ → List Posted → List Posted → Bag
bag parts pushed popped = record { parts = parts; pushed = pushed; popped = popped }

-- what the holder of a pass knows
abbrev pub bag_of : Seat (Option Posted) (Going Posted Bag) Global → Bag
bag_of pass = pass.me.view.client

-- the parts of two, and what both pushed and popped
abbrev pub joined : Bag → Bag → Bag
joined v w = bag (v.parts + w.parts) (v.pushed ++ w.pushed) (v.popped ++ w.popped)

-- who has popped this too
abbrev pub popping_back : Bag → List Posted → Bag
popping_back v left = bag v.parts v.pushed (v.popped ++ left)

-- of so many parts
pub record Gives (items : List Posted) (views : List Bag) : Type 0 where
  pub parts : sum_by (λ v. v.parts) views ≡ 64
  -- the numbers are those that a run can have
  pub small : All (λ posted. posted.job.number < 18446744073709551615) items
  -- who has no part did nothing
  pub idle : (pass : ℕ) (v : Bag) → get_elem? views pass ≡ some v → v.parts ≡ 0 → (v.pushed ≡ []) × (v.popped ≡ [])
  -- whatever each message counts for: what stands in the queue and what was popped counts for as much as what was pushed
  pub counts : (worth : Posted → ℕ) → sum_by worth items + sum_by (λ v. sum_by worth v.popped) views ≡ sum_by (λ v. sum_by worth v.pushed) views

-- the queue stood so, at a moment at which some pass had this view
pub record StandsBack (v : Bag) (items : List Posted) : Type 0 where
  pub views : List Bag
  pub pass : ℕ
  pub there : get_elem? views pass ≡ some v
  pub holds : Gives items views

-- a message joined the queue at its back
pub record PushesBack (old : Bag) (posted : Posted) (new : Bag) : Type 0 where
  pub items : List Posted
  pub before : StandsBack old items
  pub after : StandsBack new (items ++ posted ∷ [])
  pub is : new ≡ bag old.parts (old.pushed ++ posted ∷ []) old.popped

-- a message left the queue at its front
pub record PopsBack (old : Bag) (posted : Posted) (new : Bag) : Type 0 where
  pub items : List Posted
  pub before : StandsBack old (posted ∷ items)
  pub after : StandsBack new items
  pub is : new ≡ bag old.parts old.pushed (old.popped ++ posted ∷ [])
