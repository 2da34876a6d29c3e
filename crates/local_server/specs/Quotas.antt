-- The quota of every connection (section 4.9).
use Rattle.std.specs.List.{AllByRecursion}
use Rattle.client_table.specs.Quotas.{IsCellWithinQuota}
use Rattle.local_server.specs.Servers.{Clients}

-- of the PUBLISH packets that were sent on any connection, no more are unacknowledged than its quota
abbrev pub AllWithinQuota : Clients → Type 0
AllWithinQuota clients = AllByRecursion IsCellWithinQuota clients
