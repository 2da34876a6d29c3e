-- Who is not limited may do everything, and what one of a list passes.
use Rattle.std.proofs.Common.{◌≡◌, ℕ, Bool, ◌||◌, List, [], ◌∷◌, map, true, refl, ap}
use Rattle.std.specs.List.{list_any}
use Rattle.users.specs.Rights.{all_rights, may_publish, may_work}

pub everything_may_be_published : (topic : List ℕ) → may_publish all_rights topic ≡ true
unfolding may_publish
everything_may_be_published topic = refl

pub every_share_may_be_worked_for : (share : List ℕ) → may_work all_rights share ≡ true
unfolding may_work
every_share_may_be_worked_for share = refl

pub any_mapped : {X Y : Type 0} (test : X → Bool) (view : Y → X) (items : List Y) → list_any test (map view items) ≡ list_any (λ item. test (view item)) items
any_mapped test view [] = refl
any_mapped test view (item ∷ items) = ap (λ (others : Bool). test (view item) || others) (any_mapped test view items)
