-- What `hash-password` writes (profile).
use Rattle.std.specs.Prelude.{◌≡◌, ℕ, codes, List, [], ◌∷◌, ◌++◌, length, Result, Ok, Err}
use Rattle.text_io.specs.Lines.{lines_of}
use Rattle.users.specs.Lines.{user_line}
use Rattle.arguments.specs.declared.password.PasswordOptions.{PasswordOptions}

-- the password of lines is the first, which may not be empty; or the number of the line that is at fault, which is 1
abbrev pub first_password : List (List ℕ) → Result (List ℕ) ℕ
first_password [] = Err 1
first_password ([] ∷ lines) = Err 1
first_password ((byte ∷ bytes) ∷ lines) = Ok (byte ∷ bytes)

abbrev pub password_in : List ℕ → Result (List ℕ) ℕ
password_in input = first_password (lines_of input)

-- the line of a user of that name with this password, with a salt of 12 bytes, and the end of a line
pub record IsUserLine (options : PasswordOptions) (password text : List ℕ) : Type 0 where
  pub salt : List ℕ
  pub salted : length salt ≡ 12
  pub line : text ≡ user_line options.name password salt options.iterations ++ codes "\n"

-- what is written: the line of a user with the password in the input
pub record IsUserOutput (options : PasswordOptions) (input text : List ℕ) : Type 0 where
  pub password : List ℕ
  pub read : password_in input ≡ Ok password
  pub line : IsUserLine options password text
