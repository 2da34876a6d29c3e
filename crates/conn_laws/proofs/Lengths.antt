-- How many bytes a packet is written in, by its Remaining Length.
use Rattle.std.proofs.Common.{◌≡◌, ℕ, suc, zero, ◌+◌, ◌/◌, ◌%◌, ◌<◌, ◌≤◌, nat_lt, Bool, true, false, if◌then◌else◌, List, [], ◌∷◌, length, refl, arith, inl, inr, le-ltb}
use Rattle.std.proofs.lemmas.Bool.{cases_lt}
use Rattle.mqtt_packet.specs.declared.packet.Packet.{Packet}
use Rattle.mqtt_fields.specs.Forms.{variable_bytes, variable_byte_integer}
use Rattle.mqtt_wire.specs.Writing.{written, written_body, written_size, remaining_length}
use Rattle.mqtt_fields.proofs.Variable.{at_most_three, at_least_three, is_one_byte, is_two_bytes}
use Rattle.mqtt_wire.proofs.WritingLaws.{written_length}
use Rattle.conn_laws.specs.Sizes.{IsShort}

-- a Variable Byte Integer is no longer than that of a greater number
pub no_more_bytes : (a b : ℕ) → a ≤ b → b < 2097152 → length (variable_byte_integer a) ≤ length (variable_byte_integer b)
no_more_bytes a b le small =
    elim (cases_lt b 16384) [
      | inl less ↦ elim (cases_lt b 128) [
        | inl one ↦ let least : a < 128 = omega arith in omega (arith, is_one_byte a least, is_one_byte b one)
        | inr two ↦ elim (cases_lt a 128) [
          | inl one ↦ omega (arith, is_one_byte a one, is_two_bytes b two less)
          | inr also ↦ let below : a < 16384 = omega arith in omega (arith, is_two_bytes a also below, is_two_bytes b two less)
        ]
      ]
      | inr large ↦ let below : a < 2097152 = omega arith in omega (arith, at_most_three a below, at_least_three b large)
    ]

pub remaining_is : (packet : Packet) → remaining_length packet ≡ length (written_body packet)
unfolding remaining_length
remaining_is packet = refl

-- five more make it a byte longer at most
pub one_byte_more : (a : ℕ) → a + 5 < 2097152 → length (variable_byte_integer (a + 5)) ≤ length (variable_byte_integer a) + 1
one_byte_more a small =
    elim (cases_lt (a + 5) 128) [
      | inl one ↦ let below : a < 128 = omega arith in omega (arith, is_one_byte (a + 5) one, is_one_byte a below)
      | inr more ↦ elim (cases_lt (a + 5) 16384) [
        | inl two ↦ elim (cases_lt a 128) [
          | inl one ↦ omega (arith, is_two_bytes (a + 5) more two, is_one_byte a one)
          | inr also ↦ let below : a < 16384 = omega arith in omega (arith, is_two_bytes (a + 5) more two, is_two_bytes a also below)
        ]
        | inr large ↦ elim (cases_lt a 16384) [
          | inl below ↦ let also : 128 ≤ a = omega arith in omega (arith, at_most_three (a + 5) small, is_two_bytes a also below)
          | inr three ↦ omega (arith, at_most_three (a + 5) small, at_least_three a three)
        ]
      ]
    ]

-- it has a byte, and one for each byte more for which there is room
if_less : (b : Bool) (more n byte : ℕ) (rest : List ℕ) → length rest ≤ suc more → length (if b then n ∷ [] else byte ∷ rest) ≤ suc (suc more)
if_less true more n byte rest few = omega arith
if_less false more n byte rest few = omega (arith, few)

no_more_than : (more n : ℕ) → length (variable_bytes more n) ≤ suc more
unfolding variable_bytes
no_more_than zero n = omega arith
no_more_than (suc more) n = if_less (nat_lt n 128) more n (n % 128 + 128) (variable_bytes more (n / 128)) (no_more_than more (n / 128))

-- so it has four at most
pub at_most_four : (n : ℕ) → length (variable_byte_integer n) ≤ 4
at_most_four n = no_more_than 3 n

-- where the Remaining Length is said in one byte
pub in_one_byte : (packet : Packet) → remaining_length packet < 128 → length (written packet) ≡ 2 + remaining_length packet
in_one_byte packet small = omega (arith, written_length packet, is_one_byte (remaining_length packet) small)

-- .. and in three bytes at most
pub in_three_bytes : (packet : Packet) → remaining_length packet < 2097152 → length (written packet) ≤ 4 + remaining_length packet
in_three_bytes packet small = omega (arith, written_length packet, at_most_three (remaining_length packet) small)

-- the Remaining Length of a short packet can be said
pub said : (packet : Packet) → IsShort packet → remaining_length packet ≤ 268435455
said packet short = omega (arith, written_length packet, short)

pub sized : (packet : Packet) → IsShort packet → written_size packet ≡ length (written packet)
unfolding written_size
sized packet short = rw (le-ltb 268435455 (remaining_length packet) (said packet short)) refl
