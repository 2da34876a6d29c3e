-- Users, what is kept of them, and whom they admit (profile).
use Rattle.std.specs.Prelude.{ℕ, Bool, false, bytes_eq, List, Option, Some, None}
use Rattle.std.specs.Map.{lookup}
use Rattle.users.specs.Hashing.{pbkdf2_sha512}

-- what is kept of a password: its hash of 64 bytes, and under how many iterations and which salt it was hashed
pub record StoredPassword : Type 0 where
  pub iterations : ℕ
  pub salt : List ℕ
  pub hash : List ℕ

-- what a user may do: publish to the topics that one of these filters matches, work for these shares, and connect under these
-- client identifiers, which are nobody else's
pub record Rights : Type 0 where
  pub publish : List (List ℕ)
  pub work : List (List ℕ)
  pub clients : List (List ℕ)

-- what is kept of a user
pub record StoredUser : Type 0 where
  pub password : StoredPassword
  pub rights : Rights

-- a table of users: the name of each and what is kept of it, in the order of the file
abbrev pub UserTable : Type 0
UserTable = List (List ℕ × StoredUser)

-- what is kept of the user of this name, where there is one
abbrev pub stored_of : UserTable → List ℕ → Option StoredUser
stored_of table name = lookup (λ known. bytes_eq name known) table

-- the password has the hash
abbrev pub is_password : StoredPassword → List ℕ → Bool
is_password stored password = bytes_eq (pbkdf2_sha512 password stored.salt stored.iterations) stored.hash

-- the password of a user who is not there is no password
abbrev pub is_password_of : Option StoredUser → List ℕ → Bool
is_password_of None password = false
is_password_of (Some user) password = is_password user.password password

-- a user of that name is in the table, and that is its password
unfoldable pub admits : UserTable → List ℕ → List ℕ → Bool
admits table name password = is_password_of (stored_of table name) password
