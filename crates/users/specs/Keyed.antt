-- What HMAC under one key is computed from.
use Rattle.std.specs.Prelude.{ℕ, List}
use Rattle.sha2.specs.Hashers.{Holds512}
use Rattle.users.specs.declared.hashing.Mac.{Mac}
use Rattle.users.specs.Hashing.{key_block, masked}

-- the two hashers have taken in the block of this key under the two masks (RFC 2104, section 2)
pub record IsKeyed (mac : Mac) (key : List ℕ) : Type 0 where
  pub inner : Holds512 mac.inner (masked 0x36 (key_block key))
  pub outer : Holds512 mac.outer (masked 0x5C (key_block key))
