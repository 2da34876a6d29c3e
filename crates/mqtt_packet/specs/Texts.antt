-- What is a text, and what is Binary Data.
use Rattle.std.specs.Prelude.{IsTrue, ◌<◌, ◌^◌, ℕ, ◌==◌, nat_lt, Bool, not, ◌&&◌, List, length}
use Rattle.std.specs.List.{list_any}
use Rattle.std.specs.Str.{is_utf8}

-- 1.5.4 UTF-8 Encoded String: well-formed UTF-8 without U+0000, of at most 65,535 bytes
unfoldable pub is_text : List ℕ → Bool
is_text bytes = nat_lt (length bytes) 65536 && not (list_any (λ b. b == 0) bytes) && is_utf8 bytes

-- the bytes are a text ..
abbrev pub IsText : List ℕ → Type 0
IsText bytes = IsTrue (is_text bytes)

-- .. or Binary Data (1.5.6), whose length fits in two bytes
abbrev pub IsBinary : List ℕ → Type 0
IsBinary bytes = length bytes < 2 ^ 16
