-- What writing after a buffer's bytes needs, and what it leaves.
use Rattle.std.specs.Prelude.{◌≡◌, ℕ, ◌+◌, ◌≤◌, List, ◌++◌, length, vec_len, vec_capacity, Vec}
use Rattle.std.specs.declared.alloc.Global.{Global}

-- there is room for these bytes
abbrev pub HasRoom : Vec ℕ Global → List ℕ → Type 0
HasRoom buffer bytes = vec_len buffer + length bytes ≤ vec_capacity buffer

-- these bytes stand behind those that were there, and the room did not shrink
pub record Appends (old : Vec ℕ Global) (bytes : List ℕ) (new : Vec ℕ Global) : Type 0 where
  pub items : new.items ≡ old.items ++ bytes
  pub len : vec_len new ≡ vec_len old + length bytes
  pub capacity : vec_capacity old ≤ vec_capacity new
