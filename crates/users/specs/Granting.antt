-- The lines of a users file that say what a user may do, ` publish FILTER`, ` work SHARE` and ` client IDENTIFIER` (profile).
use Rattle.std.specs.Prelude.{ℕ, ◌&&◌, nat_le, bytes_eq, Bool, false, if◌then◌else◌, List, [], ◌∷◌, ◌++◌, length, codes, Option, Some, None}
use Rattle.std.specs.List.{list_any}
use Rattle.std.specs.Option.{option_map}
use Rattle.std.specs.Result.{result_ok}
use Rattle.mqtt_packet.specs.Texts.{is_text}
use Rattle.mqtt_topic.specs.Names.{filter_of, share_of}
use Rattle.users.specs.Cuts.{◌>>=◌, cut, without_blanks}
use Rattle.users.specs.Rights.{owns_client}
use Rattle.users.specs.Table.{Rights, StoredUser, UserTable}
use Rattle.users.specs.declared.right.Right.{Right}
use Rattle.users.specs.declared.right.Right.TheVariants.{Publish, Work, Client}

-- ---- one right

-- a client identifier has 1 to 128 bytes
abbrev pub client_of : List ℕ → Option Right
client_of text = if nat_le 1 (length text) && nat_le (length text) 128 then Some (Client text) else None

-- the right that a word and a text name: a topic filter to publish to, a share to work for, or a client identifier
abbrev pub right_named : List ℕ → List ℕ → Option Right
right_named word text =
    if bytes_eq word (codes "publish") then option_map Publish (result_ok (filter_of text))
    else if bytes_eq word (codes "work") then option_map Work (result_ok (share_of text))
    else if bytes_eq word (codes "client") then client_of text
    else None

-- the bytes, where they are a text
abbrev pub text_of : List ℕ → Option (List ℕ)
text_of bytes = if is_text bytes then Some bytes else None

-- the right that a line gives: after the spaces and tabs in front a word, one space, and the text
unfoldable pub right_of : List ℕ → Option Right
right_of line = do
  parts ← cut 32 (without_blanks line)
  text ← text_of parts.1
  right_named parts.0 text

-- ---- rights and one more

abbrev pub with_right : Rights → Right → Rights
with_right rights (Publish filter) = record { publish = rights.publish ++ filter ∷ []; work = rights.work; clients = rights.clients }
with_right rights (Work share) = record { publish = rights.publish; work = rights.work ++ share.text ∷ []; clients = rights.clients }
with_right rights (Client client) = record { publish = rights.publish; work = rights.work; clients = rights.clients ++ client ∷ [] }

abbrev pub granted : StoredUser → Right → StoredUser
granted user right = record { password = user.password; rights = with_right user.rights right }

-- a table whose last user has one right more, where there is a user
abbrev pub onto_last : Right → UserTable → Option UserTable
onto_last right [] = None
onto_last right (user ∷ []) = Some ((user.0, granted user.1 right) ∷ [])
onto_last right (user ∷ next ∷ users) = option_map (λ others. user ∷ others) (onto_last right (next ∷ users))

-- a right is a client identifier that a user of the table has, this one or another; no other right is taken
abbrev pub is_taken : UserTable → Right → Bool
is_taken table (Publish filter) = false
is_taken table (Work share) = false
is_taken table (Client client) = list_any (λ user. owns_client user.1.rights client) table

-- a table whose last user has this right more: none where there is no right, or it is a client identifier that is taken
abbrev pub with_grant : UserTable → Option Right → Option UserTable
with_grant table None = None
with_grant table (Some right) = if is_taken table right then None else onto_last right table
