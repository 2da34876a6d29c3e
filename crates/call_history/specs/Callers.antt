-- A caller of a history as contracts see it.
use Rattle.std.specs.Prelude.{ℕ, ◌+◌, List, [], ◌++◌, length}
use Rattle.call_history.specs.Numbers.{numbers}

-- how many parts of the right to call there are: more than callers
abbrev pub all_parts : ℕ
all_parts = 128

-- what a caller knows: the calls that there were when it called last, in order; the numbers of its own, and of those of the callers that were joined to it; and how many parts of
-- the right to call it has
pub record CallerState (E : Type 0) : Type 0 where
  pub calls : List E
  pub own : List ℕ
  pub parts : ℕ

module _ {E : Type 0} where
  -- the one caller of a new history
  abbrev pub first_caller : CallerState E
  first_caller = record { calls = []; own = []; parts = all_parts }

  -- one that has one part of its own, and knows these calls
  abbrev pub new_caller : List E → CallerState E
  new_caller calls = record { calls = calls; own = []; parts = 1 }

  -- the caller made these calls, after all those that were made before
  abbrev pub calling : CallerState E → List E → List E → CallerState E
  calling caller before calls = record { calls = before ++ calls; own = caller.own ++ numbers (length before) calls; parts = caller.parts }

  -- of two callers one: it knows these calls, made what both made, and has the parts of both
  abbrev pub joined : CallerState E → CallerState E → List E → CallerState E
  joined one other calls = record { calls = calls; own = one.own ++ other.own; parts = one.parts + other.parts }
