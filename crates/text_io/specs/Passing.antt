-- What a writer got of a text: a beginning of it.
use Rattle.std.specs.Prelude.{◌≡◌, ℕ, List, ◌++◌, Option}
use Rattle.std.specs.Io.KnownBytes.{Appends}

-- The writer got a beginning of the text, perhaps all of it, perhaps nothing.
pub record Begins (old new : Option (List ℕ)) (text : List ℕ) : Type 0 where
  pub part : List ℕ
  pub rest : List ℕ
  pub written : Appends old new part
  pub whole : part ++ rest ≡ text
