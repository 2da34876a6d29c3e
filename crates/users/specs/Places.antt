-- How the rights of a client are held: as the place of its user in a table.
use Rattle.std.specs.Prelude.{Option, Some, None}
use Rattle.users.specs.Layout.{rights_at}
use Rattle.users.specs.Rights.{all_rights}
use Rattle.users.specs.Table.{Rights}
use Rattle.users.specs.declared.client_rights.Place.{Place}

-- the rights of the user at that place, and all where there is none
abbrev pub rights_there : Option Place → Rights
rights_there None = all_rights
rights_there (Some place) = rights_at place.users place.index
