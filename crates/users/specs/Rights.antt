-- What a user may do (profile).
use Rattle.std.specs.Prelude.{ℕ, ◌==◌, ◌&&◌, ◌||◌, not, bytes_eq, Bool, List, [], length, Option, Some, None}
use Rattle.std.specs.List.{list_any}
use Rattle.mqtt_topic.specs.Levels.{matches}
use Rattle.users.specs.Table.{StoredPassword, Rights, StoredUser, UserTable, stored_of}

-- a user of whom nothing is said
abbrev pub all_rights : Rights
all_rights = record { publish = []; work = []; clients = [] }

-- what is kept of a user of whom nothing is said but its password
abbrev pub with_all_rights : StoredPassword → StoredUser
with_all_rights password = record { password = password; rights = all_rights }

-- where a user is given topics to publish to, or shares to work for, it may do just that
abbrev pub is_limited : Rights → Bool
is_limited rights = not (length rights.publish == 0) || not (length rights.work == 0)

-- a filter of the rights matches the topic name
abbrev pub is_given_topic : Rights → List ℕ → Bool
is_given_topic rights topic = list_any (λ filter. matches filter topic) rights.publish

-- the share of this text is among those of the rights
abbrev pub is_given_share : Rights → List ℕ → Bool
is_given_share rights share = list_any (λ own. bytes_eq share own) rights.work

-- it may publish to the topic of this name: it is not limited, or a filter matches
unfoldable pub may_publish : Rights → List ℕ → Bool
may_publish rights topic = not (is_limited rights) || is_given_topic rights topic

-- it may work for the share of this text: it is not limited, or the share is among those of the rights
unfoldable pub may_work : Rights → List ℕ → Bool
may_work rights share = not (is_limited rights) || is_given_share rights share

-- a user who is not there is one of whom nothing is said
abbrev pub rights_from : Option StoredUser → Rights
rights_from None = all_rights
rights_from (Some user) = user.rights

-- the rights of the user of this name
abbrev pub rights_of : UserTable → List ℕ → Rights
rights_of table name = rights_from (stored_of table name)

-- the client identifier is among those of the rights
abbrev pub owns_client : Rights → List ℕ → Bool
owns_client rights client = list_any (λ own. bytes_eq own client) rights.clients

-- where the rights have client identifiers, it is one of them
abbrev pub may_use : Rights → List ℕ → Bool
may_use rights client = length rights.clients == 0 || owns_client rights client

-- the client identifier is one of a user of another name
abbrev pub is_of_another : UserTable → List ℕ → List ℕ → Bool
is_of_another table name client = list_any (λ user. owns_client user.1.rights client && not (bytes_eq user.0 name)) table

-- a user may connect under a client identifier: it is one of its own, where it has any, and no other user's
unfoldable pub may_connect_as : UserTable → List ℕ → List ℕ → Bool
may_connect_as table name client = may_use (rights_of table name) client && not (is_of_another table name client)
