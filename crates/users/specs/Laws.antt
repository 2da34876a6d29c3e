-- Which lines may be made, and what they are read as.
use Rattle.std.specs.Prelude.{◌≡◌, ℕ, ◌<◌, ◌≤◌, true, List, [], ◌∷◌, length}
use Rattle.base64.specs.GeneralPurpose.{IsBytes}
use Rattle.users.specs.Hashing.{pbkdf2_sha512}
use Rattle.users.specs.Lines.{is_user_name}
use Rattle.users.specs.Rights.{with_all_rights}
use Rattle.users.specs.Table.{UserTable}

-- a name of a user, a salt of 1 to 64 bytes and 1 to 1,000,000 iterations
pub record MayBeMade (name salt : List ℕ) (iterations : ℕ) : Type 0 where
  pub name_is : is_user_name name ≡ true
  pub some_salt : 0 < length salt
  pub short_salt : length salt ≤ 64
  pub salt_bytes : IsBytes salt
  pub some_iteration : 0 < iterations
  pub few_iterations : iterations ≤ 1000000

-- the table of one user with this password, hashed under this salt by so many iterations, who may do everything
abbrev pub one_user : List ℕ → List ℕ → List ℕ → ℕ → UserTable
one_user name password salt iterations =
    (name, with_all_rights (record { iterations = iterations; salt = salt; hash = pbkdf2_sha512 password salt iterations })) ∷ []
