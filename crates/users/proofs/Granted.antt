-- The last user of a table with one right more.
use Rattle.std.proofs.Common.{◌≡◌, ℕ, zero, suc, ◌-◌, List, [], ◌∷◌, length, map, slice_get, Some, sym, ap, ◌∙◌, arith}
use Rattle.std.specs.declared.vec.Vec.{Vec}
use Rattle.std.specs.Option.{option_map}
use Rattle.indexmap.specs.IndexMap.{set_value_at}
use Rattle.users.specs.Granting.{granted, onto_last}
use Rattle.users.specs.Layout.{seen}
use Rattle.users.specs.Table.{StoredUser, UserTable}
use Rattle.users.specs.declared.right.Right.{Right}

some_is : {X : Type 0} (x y : X) → Some x ≡ Some y → x ≡ y
some_is x y e = cc

-- the right goes to the value at the last place of a map's entries
pub last_granted : {A : Type 0} (entries : List (Vec ℕ A × StoredUser)) (right : Right) (user after : StoredUser) (place : ℕ)
    → place ≡ length entries - 1 → slice_get (map (λ entry. entry.1) entries) place ≡ Some user → after ≡ granted user right
    → onto_last right (seen entries) ≡ Some (seen (set_value_at entries place after))
last_granted [] right user after place end at is = absurd (let no = at in cc)
last_granted (entry ∷ []) right user after zero end at is =
    ap (λ (kept : StoredUser). Some ((entry.0.items, kept) ∷ [])) (ap (λ kept. granted kept right) (some_is entry.1 user at) ∙ sym is)
last_granted (entry ∷ []) right user after (suc place) end at is = absurd (omega (arith, end))
last_granted (entry ∷ next ∷ entries) right user after zero end at is = absurd (omega (arith, end))
last_granted (entry ∷ next ∷ entries) right user after (suc place) end at is =
    ap (option_map (λ (others : UserTable). (entry.0.items, entry.1) ∷ others)) (last_granted (next ∷ entries) right user after place (omega (arith, end)) at is)
