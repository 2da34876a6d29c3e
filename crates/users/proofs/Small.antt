-- A hash has 64 bytes, each below 256.
use Rattle.std.proofs.Common.{◌≡◌, ℕ, zero, suc, ◌-◌, ◌<◌, List, [], ◌∷◌, ◌++◌, length, slice_index, lit<, sym, ◌∙◌, arith}
use Rattle.std.proofs.lemmas.Nat.{xor_lt}
use Rattle.std.specs.Int.{w64, byte_at, bytes_high_first, to_be_bytes}
use Rattle.sha2.proofs.Facts512.{length-sha512}
use Rattle.sha2.specs.Sha512.{digest_bytes, final_hash, initial_hash_512, sha512}
use Rattle.base64.specs.GeneralPurpose.{IsBytes}
use Rattle.users.specs.Hashing.{hmac_sha512, link, links_xor, pbkdf2_sha512, xor_bytes}
use Rattle.users.proofs.Bytes.{length-xor_bytes}

abbrev AreSmall : List ℕ → Type 0
AreSmall [] = Unit {0}
AreSmall (byte ∷ bytes) = (byte < 256) × AreSmall bytes

small-append : (xs ys : List ℕ) → AreSmall xs → AreSmall ys → AreSmall (xs ++ ys)
small-append [] ys hx hy = hy
small-append (x ∷ xs) ys hx hy = (hx.0, small-append xs ys hx.1 hy)

small_at : (xs : List ℕ) → AreSmall xs → IsBytes xs
small_at [] h i = lit< tt
small_at (x ∷ xs) h zero = h.0
small_at (x ∷ xs) h (suc i) = small_at xs h.1 i

small_byte : (k n : ℕ) → byte_at k n < 256
small_byte zero n = omega arith
small_byte (suc k) n = omega arith

small_word : (k n : ℕ) → AreSmall (bytes_high_first k n)
small_word zero n = tt
small_word (suc k) n = (small_byte k n, small_word k n)

small_digest : (h : List ℕ) (n : ℕ) → AreSmall (digest_bytes h n)
unfolding digest_bytes
small_digest h zero = tt
small_digest h (suc n) = small-append (digest_bytes h n) (to_be_bytes w64 (slice_index h n)) (small_digest h n) (small_word 8 (slice_index h n))

small_sha512 : (m : List ℕ) → AreSmall (sha512 m)
unfolding sha512
small_sha512 m = small_digest (final_hash initial_hash_512 m) 8

-- 64 bytes, each below 256
record IsHash (bytes : List ℕ) : Type 0 where
  long : length bytes ≡ 64
  small : AreSmall bytes

hash_hmac : (key text : List ℕ) → IsHash (hmac_sha512 key text)
unfolding hmac_sha512
hash_hmac key text = record { long = length-sha512 _; small = small_sha512 _ }

hash_link : (password salt : List ℕ) (n : ℕ) → IsHash (link password salt n)
unfolding link
hash_link password salt zero = hash_hmac password _
hash_link password salt (suc n) = hash_hmac password _

small_xor : (xs ys : List ℕ) → AreSmall xs → AreSmall ys → AreSmall (xor_bytes xs ys)
small_xor [] ys hx hy = tt
small_xor (x ∷ xs) [] hx hy = tt
small_xor (x ∷ xs) (y ∷ ys) hx hy = (xor_lt 8 x y hx.0 hy.0, small_xor xs ys hx.1 hy.1)

hash_links : (password salt : List ℕ) (n : ℕ) → IsHash (links_xor password salt n)
unfolding links_xor
hash_links password salt zero = hash_link password salt zero
hash_links password salt (suc n) =
    let before = hash_links password salt n in
    let last = hash_link password salt (suc n) in
    record {
      long = length-xor_bytes (links_xor password salt n) (link password salt (suc n)) (before.long ∙ sym last.long) ∙ before.long;
      small = small_xor (links_xor password salt n) (link password salt (suc n)) before.small last.small;
    }

pub length-pbkdf2 : (password salt : List ℕ) (iterations : ℕ) → length (pbkdf2_sha512 password salt iterations) ≡ 64
unfolding pbkdf2_sha512
length-pbkdf2 password salt iterations = (hash_links password salt (iterations - 1)).long

pub bytes-pbkdf2 : (password salt : List ℕ) (iterations : ℕ) → IsBytes (pbkdf2_sha512 password salt iterations)
unfolding pbkdf2_sha512
bytes-pbkdf2 password salt iterations = small_at _ (hash_links password salt (iterations - 1)).small
