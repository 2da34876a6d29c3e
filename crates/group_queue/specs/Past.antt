-- The rule of the main queue: there is a past. What stands in the queue, and what anybody knows, is read off one list of pops
-- and the messages after it.
use Rattle.std.specs.Prelude.{◌≡◌, ℕ, ◌<◌, ◌≤◌, ◌==◌, true, List, [], ◌∷◌, ◌++◌, length, map, filter, Contains}
use mathlib.Core.Option.{some}
use lib.ListN.{get_elem?}
use Rattle.limits.specs.Limits.{most_accepted}
use Rattle.group_queue.specs.declared.posted.Posted.{Posted}
use Rattle.group_queue.specs.declared.view.Name.{Name}
use Rattle.group_queue.specs.declared.view.Name.TheVariants.{Port, Place, Finisher}
use Rattle.group_queue.specs.declared.view.View.{View}
use Rattle.group_queue.specs.Views.{same_name, Each, AreApart, one, grown}

-- one pop from the queue: who made it, and the message
pub record Pop : Type 0 where
  pub by : Name
  pub posted : Posted

-- all that was ever pushed, in order: what was popped, and what still stands in the queue
abbrev pub all_of : List Pop → List Posted → List Posted
all_of past items = map (λ pop. pop.posted) past ++ items

-- what came through this port
abbrev pub through : ℕ → List Posted → List Posted
through port list = filter (λ posted. posted.job.port == port) list

-- what somebody popped
abbrev pub popped_by : Name → List Pop → List Posted
popped_by name past = map (λ pop. pop.posted) (filter (λ pop. same_name pop.by name) past)

-- what somebody did: a port pushed what came through it, and a place and the finisher popped
abbrev pub list_of : Name → List Pop → List Posted → List Posted
list_of (Port port) past items = through port (all_of past items)
list_of (Place place) past items = popped_by (Place place) past
list_of Finisher past items = popped_by Finisher past

-- each message has as its number how many came through its port before it, which are fewer than 2^40
abbrev pub AreNumbered : List Posted → Type 0
AreNumbered all = (front behind : List Posted) (posted : Posted) → all ≡ front ++ posted ∷ behind
    → (posted.job.number ≡ length (through posted.job.port front)) × (posted.job.number < most_accepted)

-- what a pass knows is what those did whose names it has, and it is the one pass that has them
pub record Fits (past : List Pop) (items : List Posted) (owner : Name → ℕ) (pass : ℕ) (v : View) : Type 0 where
  pub entries : Each (λ e. (owner e.name ≡ pass) × (e.list ≡ list_of e.name past items)) v.entries
  pub apart : AreApart v.entries
  pub ports : v.keeps ≡ true → (port : ℕ) → v.ports ≤ port → (owner (Port port) ≡ pass) × (list_of (Port port) past items ≡ [])
  pub places : v.keeps ≡ true → (place : ℕ) → v.places ≤ place → (owner (Place place) ≡ pass) × (list_of (Place place) past items ≡ [])

-- the queue has a past
pub record HasPast (items : List Posted) (views : List View) : Type 0 where
  pub past : List Pop
  pub owner : Name → ℕ
  pub numbered : AreNumbered (all_of past items)
  -- who pops is a place or the finisher
  pub no_port : (port : ℕ) → popped_by (Port port) past ≡ []
  pub fits : (pass : ℕ) (v : View) → get_elem? views pass ≡ some v → Fits past items owner pass v

-- the queue stood so, at a moment at which some pass had this view
pub record Stands (v : View) (items : List Posted) : Type 0 where
  pub views : List View
  pub pass : ℕ
  pub there : get_elem? views pass ≡ some v
  pub holds : HasPast items views

-- a message joined the queue at its back, and its port knows it
pub record Adds (old : View) (posted : Posted) (new : View) : Type 0 where
  pub items : List Posted
  pub before : Stands old items
  pub after : Stands new (items ++ posted ∷ [])
  pub is : new ≡ grown old posted

-- a message left the queue at its front, and who popped it knows it
pub record Takes (old : View) (posted : Posted) (new : View) : Type 0 where
  pub items : List Posted
  pub before : Stands old (posted ∷ items)
  pub after : Stands new items
  pub is : new ≡ grown old posted

-- some pass has this view
abbrev pub IsKnown : List View → View → Type 0
IsKnown views v = (pass : ℕ) × (get_elem? views pass ≡ some v)

-- of so many places one has this message among its first hand-outs, and no other place has it
pub record IsWithOne (views : List View) (places : ℕ) (posted : Posted) : Type 0 where
  pub place : ℕ
  pub within : place < places
  pub firsts : List Posted
  pub known : IsKnown views (one (Place place) firsts)
  pub there : Contains firsts posted
  pub only : (other : ℕ) (others : List Posted) → IsKnown views (one (Place other) others) → Contains others posted → other ≡ place
