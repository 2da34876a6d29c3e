-- The lines of a users file, `name:$7$iterations$salt$hash` and what the user may do, and the table that they spell (profile).
use Rattle.std.specs.Prelude.{ℕ, ◌+◌, ◌-◌, ◌*◌, ◌==◌, ◌&&◌, not, nat_eq, nat_lt, nat_le, Bool, true, false, if◌then◌else◌, List, [], ◌∷◌, ◌++◌, length, drop, codes, Option, Some, None, is_some, Result, Ok, Err}
use Rattle.std.specs.Char.{is_ascii_digit}
use Rattle.std.specs.Fmt.{decimal}
use Rattle.std.specs.List.{list_all, starts_with}
use Rattle.std.specs.Option.{option_map}
use Rattle.std.specs.Str.Lines.{strip_carriage_return}
use Rattle.base64.specs.Engines.{standard}
use Rattle.base64.specs.GeneralPurpose.{decoded_of, encode_of}
use Rattle.users.specs.Cuts.{◌>>=◌, cut, begins_blank}
use Rattle.users.specs.Granting.{right_of, with_grant}
use Rattle.users.specs.Hashing.{pbkdf2_sha512}
use Rattle.users.specs.Rights.{with_all_rights}
use Rattle.users.specs.Table.{StoredPassword, StoredUser, UserTable, stored_of}

-- ---- the parts of a line

-- no `:`, no control character
abbrev pub is_name_byte : ℕ → Bool
is_name_byte byte = nat_le 32 byte && not (byte == 127) && not (byte == 58)

abbrev pub begins_comment : List ℕ → Bool
begins_comment [] = false
begins_comment (byte ∷ bytes) = byte == 35

-- a name has 1 to 128 bytes and does not begin with `#` or a space
unfoldable pub is_user_name : List ℕ → Bool
is_user_name name = not (length name == 0) && nat_le (length name) 128 && not (begins_comment name) && not (begins_blank name) && list_all is_name_byte name

-- the most iterations
abbrev pub most_iterations : ℕ
most_iterations = 1000000

abbrev pub if_at_most : ℕ → ℕ → Option ℕ
if_at_most most number = if nat_le number most then Some number else None

-- a number with one digit more after it, where it is no more than the most iterations
abbrev pub with_digit : ℕ → ℕ → Option ℕ
with_digit number byte = if is_ascii_digit byte then if_at_most most_iterations (number * 10 + (byte - 48)) else None

abbrev pub with_digits : Option ℕ → List ℕ → Option ℕ
with_digits None digits = None
with_digits (Some number) [] = Some number
with_digits (Some number) (byte ∷ bytes) = with_digits (with_digit number byte) bytes

abbrev pub if_some_iteration : Option ℕ → Option ℕ
if_some_iteration None = None
if_some_iteration (Some number) = if nat_lt 0 number then Some number else None

-- a number of iterations in decimal, from 1 to the most, perhaps after zeros
abbrev pub iterations_of : List ℕ → Option ℕ
iterations_of digits = if_some_iteration (with_digits (Some 0) digits)

abbrev pub if_size : ℕ → ℕ → Option (List ℕ) → Option (List ℕ)
if_size least most None = None
if_size least most (Some bytes) = if nat_le least (length bytes) && nat_le (length bytes) most then Some bytes else None

-- a salt of 1 to 64 bytes, in base64 with padding (RFC 4648, section 4)
unfoldable pub salt_of : List ℕ → Option (List ℕ)
salt_of text = if_size 1 64 (decoded_of standard text)

-- a hash of 64 bytes, in base64 with padding (RFC 4648, section 4)
unfoldable pub hash_of : List ℕ → Option (List ℕ)
hash_of text = if_size 64 64 (decoded_of standard text)

-- ---- lines

-- `$7$` stands in front of what is kept of a password, and goes
abbrev pub without_scheme : List ℕ → Option (List ℕ)
without_scheme text = if starts_with nat_eq text (codes "$7$") then Some (drop 3 text) else None

-- iterations, salt and hash of `$7$iterations$salt$hash`
unfoldable pub fields_of : List ℕ → Option (List ℕ × List ℕ × List ℕ)
fields_of text = do
  fields ← without_scheme text
  iterations ← cut 36 fields
  salt ← cut 36 iterations.1
  Some (iterations.0, salt.0, salt.1)

abbrev pub of_fields : List ℕ × List ℕ × List ℕ → Option StoredPassword
of_fields fields = do
  iterations ← iterations_of fields.0
  salt ← salt_of fields.1
  hash ← hash_of fields.2
  Some (record { iterations = iterations; salt = salt; hash = hash })

-- what is kept of a password
unfoldable pub password_of : List ℕ → Option StoredPassword
password_of text = do
  fields ← fields_of text
  of_fields fields

abbrev pub of_parts : List ℕ × List ℕ → Option (List ℕ × StoredUser)
of_parts parts = if is_user_name parts.0 then option_map (λ password. (parts.0, with_all_rights password)) (password_of parts.1) else None

-- the user of a line: its name and what is kept of it
unfoldable pub user_of : List ℕ → Option (List ℕ × StoredUser)
user_of line = do
  parts ← cut 58 line
  of_parts parts

-- an empty line, and one that begins with `#`
abbrev pub is_passed_over : List ℕ → Bool
is_passed_over [] = true
is_passed_over (byte ∷ bytes) = byte == 35

-- a table and one user more, where it has none of that name
abbrev pub with_user : UserTable → Option (List ℕ × StoredUser) → Option UserTable
with_user table None = None
with_user table (Some user) = if is_some (stored_of table user.0) then None else Some (table ++ user ∷ [])

-- a table after a line that is not passed over: one that begins with a space or a tab gives the last user a right, another one adds a user
abbrev pub with_entry : UserTable → List ℕ → Option UserTable
with_entry table line = if begins_blank line then with_grant table (right_of line) else with_user table (user_of line)

-- a table after one line more
unfoldable pub with_line : UserTable → List ℕ → Option UserTable
with_line table line = if is_passed_over line then Some table else with_entry table line

-- ---- files

-- a byte at the front of the first line
abbrev pub onto_first : ℕ → List (List ℕ) → List (List ℕ)
onto_first byte [] = (byte ∷ []) ∷ []
onto_first byte (line ∷ lines) = (byte ∷ line) ∷ lines

-- each line ends at a line feed, and where nothing follows the last line feed, nothing is no line
unfoldable pub lines_of : List ℕ → List (List ℕ)
lines_of [] = []
lines_of (byte ∷ bytes) = if byte == 10 then [] ∷ lines_of bytes else onto_first byte (lines_of bytes)

-- the table after these lines, each without the carriage return that may end it, from that after so many lines before; `None` is
-- what is after a line at fault
abbrev pub after_lines : ℕ → Option UserTable → List (List ℕ) → Result UserTable ℕ
after_lines number None lines = Err number
after_lines number (Some table) [] = Ok table
after_lines number (Some table) (line ∷ lines) = after_lines (number + 1) (with_line table (strip_carriage_return line)) lines

-- the table of a file, or the number, from 1, of its first line that is at fault
unfoldable pub users_of : List ℕ → Result UserTable ℕ
users_of text = after_lines 0 (Some []) (lines_of text)

-- ---- a line that is made

-- the bytes in base64 with padding (RFC 4648, section 4)
unfoldable pub base64_of : List ℕ → List ℕ
base64_of bytes = encode_of standard bytes

-- the line, without the line feed, of a user of this name and password, hashed under this salt by so many iterations
unfoldable pub user_line : List ℕ → List ℕ → List ℕ → ℕ → List ℕ
user_line name password salt iterations =
    name ++ codes ":$7$" ++ decimal iterations ++ codes "$" ++ base64_of salt
    ++ codes "$" ++ base64_of (pbkdf2_sha512 password salt iterations)
