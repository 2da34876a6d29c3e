-- A witness of the channel: what it saw, and at which steps it still holds. `saw items views` is what it saw: of what is in the channel, and of what each
-- pass knows.
use Rattle.std.specs.Prelude.{◌≡◌, ℕ, ◌-◌, List, [], ◌∷◌, ◌++◌, slice_set, ⊤}
use mathlib.Core.Option.{some}
use lib.ListN.{get_elem?}
use Rattle.conn_channel.specs.declared.sent.Sent.{Sent}
use Rattle.conn_channel.specs.declared.view.PassView.{PassView}
use Rattle.conn_channel.specs.Rule.{Conserves, first_pass_view, receiving_pass_view, no_pass_view, joined, sending, receiving}

module _ {T : Type 0} (saw : List (Sent T) → List (PassView T) → Type 0) where
  -- what it saw still holds after this step, where the channel's rule does
  abbrev pub Sees : List (Sent T) → List (PassView T) → List (Sent T) → List (PassView T) → Type 0
  Sees items views items' views' = Conserves items views → Conserves items' views' → saw items views → saw items' views'

  -- it follows what this pass receives
  abbrev pub FollowsReceiver : ℕ → Type 0
  FollowsReceiver pass = (item : Sent T) (items : List (Sent T)) (views : List (PassView T)) (v : PassView T) → get_elem? views pass ≡ some v
      → Sees (item ∷ items) views items (slice_set views pass (receiving v item))

  -- it saw the channel when it was opened, and follows each step of each pass
  pub record FollowsAll : Type 0 where
    pub opened : saw [] (first_pass_view ∷ [])
    pub sends : (pass : ℕ) (item : Sent T) (items : List (Sent T)) (views : List (PassView T)) (v : PassView T) → get_elem? views pass ≡ some v
        → Sees items views (items ++ item ∷ []) (slice_set views pass (sending v item))
    pub receives : (pass : ℕ) → FollowsReceiver pass
    pub cuts : (pass : ℕ) (items : List (Sent T)) (views : List (PassView T)) (v : PassView T) → get_elem? views pass ≡ some v
        → Sees items views items (slice_set views pass (record v { parts = v.parts - 1 }) ++ receiving_pass_view [] 0 ∷ [])
    pub joins : (pass other : ℕ) (items : List (Sent T)) (views : List (PassView T)) (v w : PassView T) → get_elem? views pass ≡ some v → ¬ (other ≡ pass)
        → get_elem? (slice_set views pass (joined v w)) other ≡ some w → Sees items views items (slice_set (slice_set views pass (joined v w)) other no_pass_view)

  -- the channel stood so, at a moment at which some pass had this view, and the witness saw it
  pub record Saw (v : PassView T) (items : List (Sent T)) : Type 0 where
    pub views : List (PassView T)
    pub pass : ℕ
    pub there : get_elem? views pass ≡ some v
    pub holds : Conserves items views
    pub seen : saw items views

-- a witness that sees everything follows all
pub any_witness : {T : Type 0} → FollowsAll {T = T} (λ items views. ⊤)
any_witness = record {
  opened = tt;
  sends = (λ pass item items views v at before after seen. tt);
  receives = (λ pass item items views v at before after seen. tt);
  cuts = (λ pass items views v at before after seen. tt);
  joins = (λ pass other items views v w at apart at' before after seen. tt);
}
