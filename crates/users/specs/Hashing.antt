-- HMAC (RFC 2104) and PBKDF2 (RFC 8018) over SHA-512 (FIPS 180-4), on lists of bytes.
use Rattle.std.specs.Prelude.{ℕ, zero, suc, ◌-◌, if◌then◌else◌, nat_lt, List, [], ◌∷◌, ◌++◌, length, map, replicate, bit_xor}
use Rattle.sha2.specs.Sha512.{sha512}

-- RFC 2104, section 2: a key of more than 128 bytes, the block of SHA-512, is its digest
abbrev pub short_key : List ℕ → List ℕ
short_key key = if nat_lt 128 (length key) then sha512 key else key

-- RFC 2104, section 2, step 1: zeros after the key make up a block
unfoldable pub key_block : List ℕ → List ℕ
key_block key = short_key key ++ replicate (128 - length (short_key key)) 0

-- each byte xor the mask
abbrev pub masked : ℕ → List ℕ → List ℕ
masked mask bytes = map (λ byte. bit_xor byte mask) bytes

-- RFC 2104, section 2: H(K xor opad, H(K xor ipad, text))
unfoldable pub hmac_sha512 : List ℕ → List ℕ → List ℕ
hmac_sha512 key text = sha512 (masked 0x5C (key_block key) ++ sha512 (masked 0x36 (key_block key) ++ text))

-- RFC 8018, section 5.2, step 3: U_1 of the first block, and after n more steps U_(n + 1)
unfoldable pub link : List ℕ → List ℕ → ℕ → List ℕ
link password salt zero = hmac_sha512 password (salt ++ 0 ∷ 0 ∷ 0 ∷ 1 ∷ [])
link password salt (suc n) = hmac_sha512 password (link password salt n)

-- byte by byte
abbrev pub xor_bytes : List ℕ → List ℕ → List ℕ
xor_bytes (x ∷ xs) (y ∷ ys) = bit_xor x y ∷ xor_bytes xs ys
xor_bytes _ _ = []

-- U_1 xor U_2 xor .. xor U_(n + 1)
unfoldable pub links_xor : List ℕ → List ℕ → ℕ → List ℕ
links_xor password salt zero = link password salt zero
links_xor password salt (suc n) = xor_bytes (links_xor password salt n) (link password salt (suc n))

-- RFC 8018, section 5.2: the first block of the derived key, 64 bytes, after so many iterations, at least one
unfoldable pub pbkdf2_sha512 : List ℕ → List ℕ → ℕ → List ℕ
pbkdf2_sha512 password salt iterations = links_xor password salt (iterations - 1)
