-- How a table of users is held: the map's entries, whose keys are the names.
use Rattle.std.specs.Prelude.{ℕ, List, map, slice_get}
use Rattle.std.specs.Option.{option_map}
use Rattle.std.specs.declared.vec.Vec.{Vec}
use Rattle.users.specs.Rights.{rights_from}
use Rattle.users.specs.Table.{Rights, StoredUser, UserTable}

-- the users of a map's entries
abbrev pub seen : {A : Type 0} → List (Vec ℕ A × StoredUser) → UserTable
seen entries = map (λ entry. (entry.0.items, entry.1)) entries

-- the rights of the user at that place of a table
abbrev pub rights_at : UserTable → ℕ → Rights
rights_at table index = rights_from (option_map (λ user. user.1) (slice_get table index))
