-- A broker whose input never ends.
use Rattle.std.proofs.Common.{ℕ, List, ◌∷◌, Some, Result, Ok, Err, IfOk, refl}
use Rattle.std.specs.Prelude.{IsErr}
use Rattle.std.specs.Io.KnownBytes.{IsAtEnd}

-- what ends with no error only at the end of its input, of which something is left, ends with an error
pub ends_with_error : {T E : Type 0} (ended : Result T E) (byte : ℕ) (bytes : List ℕ) → IfOk ended (λ done. IsAtEnd (Some (byte ∷ bytes))) → IsErr ended
ends_with_error (Ok done) byte bytes at_end = cc
ends_with_error (Err error) byte bytes at_end = refl
