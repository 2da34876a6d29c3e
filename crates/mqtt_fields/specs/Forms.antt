-- The data representations that packets are made of (section 1.5).
use Rattle.std.specs.Prelude.{ℕ, zero, suc, ◌+◌, ◌*◌, ◌/◌, ◌%◌, ◌<◌, nat_lt, slice_index, Bool, true, false, if◌then◌else◌, List, [], ◌∷◌, ◌++◌, length}

-- the numbers are bytes
abbrev pub AreBytes : List ℕ → Type 0
AreBytes bytes = (i : ℕ) → slice_index bytes i < 256

-- a flag as a bit
abbrev pub bit : Bool → ℕ
bit true = 1
bit false = 0

-- 1.5.2 Two Byte Integer: the most significant byte first
abbrev pub u16_bytes : ℕ → List ℕ
u16_bytes n = n / 256 ∷ n % 256 ∷ []

-- 1.5.3 Four Byte Integer
abbrev pub u32_bytes : ℕ → List ℕ
u32_bytes n = n / 16777216 ∷ n / 65536 % 256 ∷ n / 256 % 256 ∷ n % 256 ∷ []

-- 1.5.5 Variable Byte Integer, with room for so many bytes more: seven bits a byte, the least significant
-- first, and 128 added where another byte follows
unfoldable pub variable_bytes : ℕ → ℕ → List ℕ
variable_bytes zero n = n ∷ []
variable_bytes (suc more) n = if nat_lt n 128 then n ∷ [] else (n % 128 + 128) ∷ variable_bytes more (n / 128)

-- how many numbers a Variable Byte Integer with room for so many bytes more can say
abbrev pub variable_limit : ℕ → ℕ
variable_limit zero = 128
variable_limit (suc more) = 128 * variable_limit more

-- of one to four bytes, for a number below 2 ^ 28
abbrev pub variable_byte_integer : ℕ → List ℕ
variable_byte_integer n = variable_bytes 3 n

-- 1.5.6 Binary Data: a length of two bytes, and that many bytes
abbrev pub binary_data : List ℕ → List ℕ
binary_data bytes = u16_bytes (length bytes) ++ bytes

-- 1.5.4 UTF-8 Encoded String: a text, written as binary data
abbrev pub utf8_string : List ℕ → List ℕ
utf8_string text = binary_data text
