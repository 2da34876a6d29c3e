-- The users of a broker, by the text that their file gave (profile).
use Rattle.std.specs.Prelude.{◌≡◌, ◌⊎◌, ℕ, List, Option, Some, None, Ok, Err}
use Rattle.users.specs.Lines.{users_of}
use Rattle.users.specs.Table.{UserTable}
use Rattle.text_io.specs.declared.error.RunError.{RunError}
use Rattle.text_io.specs.declared.error.RunError.TheVariants.{Memory, UsersUnread, UsersLine}

-- the users of a broker: none where no file was asked for, and where one was, those of the text that it gave
abbrev pub AreUsersFor : Option (List ℕ) → Option UserTable → Type 0
AreUsersFor None users = users ≡ None
AreUsersFor (Some file) None = ⊥
AreUsersFor (Some file) (Some table) = (text : List ℕ) × (users_of text ≡ Ok table)

-- why no users were made of a text: memory was refused, or its line of that number is the first that is no user's
abbrev pub IsRefusalOf : List ℕ → RunError → Type 0
IsRefusalOf text error = (error ≡ Memory) ⊎ ((number : ℕ) × (error ≡ UsersLine number) × (users_of text ≡ Err number))

-- why a file gave no users: it was not read, or none were made of the text that it gave
abbrev pub LacksUsers : Option (List ℕ) → RunError → Type 0
LacksUsers None error = ⊥
LacksUsers (Some file) error = (error ≡ UsersUnread) ⊎ ((text : List ℕ) × IsRefusalOf text error)
