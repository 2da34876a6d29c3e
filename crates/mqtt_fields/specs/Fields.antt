-- Fields read from left to right (section 1.5): each gives its value and the bytes after it, or the first fault.
use Rattle.std.specs.Prelude.{ℕ, zero, suc, ◌+◌, ◌-◌, ◌*◌, ◌==◌, nat_lt, Bool, true, false, if◌then◌else◌, List, [], ◌∷◌, length, take, drop, Option, Some, None, Result, Ok, Err}
use Rattle.mqtt_fields.specs.declared.fault.StreamFault.{StreamFault}
use Rattle.mqtt_fields.specs.declared.fault.StreamFault.TheVariants.{Malformed, Protocol}
use Rattle.mqtt_fields.specs.Faults.{◌>>=◌}
use Rattle.mqtt_packet.specs.Texts.{is_text}

-- a field's value and the bytes after it
abbrev pub Field : Type 0 → Type 0
Field A = Result (A × List ℕ) StreamFault

-- a byte
unfoldable pub byte_at : List ℕ → Field ℕ
byte_at [] = Err Malformed
byte_at (byte ∷ rest) = Ok (byte, rest)

-- 1.5.2 Two Byte Integer
unfoldable pub u16_at : List ℕ → Field ℕ
u16_at [] = Err Malformed
u16_at (high ∷ []) = Err Malformed
u16_at (high ∷ low ∷ rest) = Ok (256 * high + low, rest)

-- 1.5.6 Binary Data: one that runs over the end is malformed
unfoldable pub binary_at : List ℕ → Field (List ℕ)
binary_at bytes = do
  size ← u16_at bytes
  if nat_lt (length size.1) size.0 then Err Malformed else Ok (take size.0 size.1, drop size.0 size.1)

-- 1.5.4 UTF-8 Encoded String: binary data that is no text is malformed
unfoldable pub text_at : List ℕ → Field (List ℕ)
text_at bytes = do
  binary ← binary_at bytes
  if is_text binary.0 then Ok binary else Err Malformed

-- a number that may not be 0: 0 is a protocol error
abbrev pub not_zero : Field ℕ → Field ℕ
not_zero field = field >>= λ number. if number.0 == 0 then Err Protocol else Ok number

-- 2.2.1 Packet Identifier
unfoldable pub identifier_at : List ℕ → Field ℕ
identifier_at bytes = not_zero (u16_at bytes)

-- 1.5.3 Four Byte Integer
unfoldable pub u32_at : List ℕ → Field ℕ
u32_at [] = Err Malformed
u32_at (a ∷ []) = Err Malformed
u32_at (a ∷ b ∷ []) = Err Malformed
u32_at (a ∷ b ∷ c ∷ []) = Err Malformed
u32_at (a ∷ b ∷ c ∷ d ∷ rest) = Ok (16777216 * a + 65536 * b + 256 * c + d, rest)

-- 3.1.2.11.6 and 3.1.2.11.7: a byte that is 0 or 1, and else a protocol error
unfoldable pub flag_at : List ℕ → Field Bool
flag_at bytes = do
  byte ← byte_at bytes
  if byte.0 == 0 then Ok (false, byte.1) else (if byte.0 == 1 then Ok (true, byte.1) else Err Protocol)

-- what a longer Variable Byte Integer adds to its first byte: a last byte of 0 is not in the fewest bytes
abbrev pub longer : ℕ → Option (ℕ × List ℕ) → Result (Option (ℕ × List ℕ)) StreamFault
longer byte None = Ok None
longer byte (Some high) = if high.0 == 0 then Err Malformed else Ok (Some (byte - 128 + 128 * high.0, high.1))

-- 1.5.5 Variable Byte Integer, with room for so many bytes more: none where it is not whole yet
unfoldable pub variable_at : ℕ → List ℕ → Result (Option (ℕ × List ℕ)) StreamFault
variable_at more [] = Ok None
variable_at zero (byte ∷ rest) = if nat_lt byte 128 then Ok (Some (byte, rest)) else Err Malformed
variable_at (suc more) (byte ∷ rest) = if nat_lt byte 128 then Ok (Some (byte, rest)) else (variable_at more rest >>= longer byte)

-- such a number as a field: it is whole, or the field runs over the end
abbrev pub whole : Option (ℕ × List ℕ) → Field ℕ
whole None = Err Malformed
whole (Some number) = Ok number

unfoldable pub variable_field_at : List ℕ → Field ℕ
variable_field_at bytes = variable_at 3 bytes >>= whole

-- a field that is there where a flag says so
abbrev pub field_if : {A : Type 0} → Bool → (List ℕ → Field A) → List ℕ → Field (Option A)
field_if true field bytes = field bytes >>= λ value. Ok (Some value.0, value.1)
field_if false field bytes = Ok (None, bytes)

-- nothing is left over after the last field
abbrev pub at_end : {A : Type 0} → A → List ℕ → Result A StreamFault
at_end value [] = Ok value
at_end value (byte ∷ rest) = Err Malformed
