-- One iteration more of PBKDF2.
use Rattle.std.proofs.Common.{◌≡◌, ℕ, suc, ◌+◌, ◌-◌, ◌≤◌, List, [], ◌∷◌, ◌++◌, sym, ap, ◌∙◌, arith, append-nil}
use Rattle.users.specs.Hashing.{hmac_sha512, link, links_xor, pbkdf2_sha512, xor_bytes}

-- the first so many links, at least one, are made: the last of them, and the xor of all
pub record IsAt (password salt : List ℕ) (count : ℕ) (last hash : List ℕ) : Type 0 where
  pub linked : last ≡ link password salt (count - 1)
  pub summed : hash ≡ links_xor password salt (count - 1)

pub first_link : (password salt made : List ℕ) → made ≡ hmac_sha512 password (salt ++ 0 ∷ 0 ∷ 0 ∷ 1 ∷ []) → IsAt password salt 1 made made
unfolding link links_xor
first_link password salt made is = record { linked = is; summed = is }

one_more : (count : ℕ) → 1 ≤ count → count + 1 - 1 ≡ suc (count - 1)
one_more count some = omega arith

pub next_link : (password salt : List ℕ) (count : ℕ) (last hash made : List ℕ) → 1 ≤ count → IsAt password salt count last hash
    → made ≡ hmac_sha512 password (last ++ []) → IsAt password salt (count + 1) made (xor_bytes hash made)
unfolding link links_xor
next_link password salt count last hash made some at is =
    let made_is = is ∙ ap (hmac_sha512 password) (append-nil last ∙ at.linked) in
    let hash_is = ap (λ h. xor_bytes h made) at.summed ∙ ap (xor_bytes (links_xor password salt (count - 1))) made_is in
    let more = sym (one_more count some) in
    record { linked = made_is ∙ ap (link password salt) more; summed = hash_is ∙ ap (links_xor password salt) more }

pub last_link : (password salt : List ℕ) (count iterations : ℕ) (last hash : List ℕ) → iterations - 1 ≡ count - 1 → IsAt password salt count last hash
    → hash ≡ pbkdf2_sha512 password salt iterations
unfolding pbkdf2_sha512
last_link password salt count iterations last hash end at = at.summed ∙ ap (links_xor password salt) (sym end)
