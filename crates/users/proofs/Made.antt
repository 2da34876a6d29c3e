-- A line that is made, piece by piece.
use Rattle.std.proofs.Common.{◌≡◌, ℕ, List, ◌∷◌, ◌++◌, append_assoc}
use Rattle.std.specs.Fmt.{decimal}
use Rattle.users.specs.Hashing.{pbkdf2_sha512}
use Rattle.users.specs.Lines.{base64_of, user_line}

-- the pieces one behind the other
abbrev pub pieces : List ℕ → List ℕ → List ℕ → List ℕ → List ℕ
pieces name digits salt hash = name ++ 58 ∷ 36 ∷ 55 ∷ 36 ∷ (digits ++ 36 ∷ (salt ++ 36 ∷ hash))

pub user_line_is : (name password salt : List ℕ) (iterations : ℕ)
    → user_line name password salt iterations ≡ pieces name (decimal iterations) (base64_of salt) (base64_of (pbkdf2_sha512 password salt iterations))
unfolding user_line
user_line_is name password salt iterations = simp append_assoc
