-- The limits of a broker: how much of each kind it has at most. All are this project's choice (profile).
use Rattle.std.specs.Prelude.{ℕ}

-- how many groups a broker has: their slots are the numbers below
abbrev pub most_groups : ℕ
most_groups = 8

-- how many members a group has, each at a place of its own: the places are the numbers below
abbrev pub most_members : ℕ
most_members = 32

-- how many ports a group has, one for each worker of a broker on threads, or each client of one on one thread
abbrev pub most_ports : ℕ
most_ports = 64

-- how many sessions of a broker are lent or parked, however many it is told to keep; those that are ending may stand beside them
abbrev pub most_sessions : ℕ
most_sessions = 65536

-- how many of them a broker keeps that is told nothing else
abbrev pub default_sessions : ℕ
default_sessions = 256

-- how many sessions whose time is over end at one Tick; the others end at later ones
abbrev pub most_retired : ℕ
most_retired = 256

-- how many connections a broker on threads has: their numbers are those below
abbrev pub most_connections : ℕ
most_connections = 1024

-- the highest capacity of a group's queue: how many accepted messages may wait for their first hand-out
abbrev pub most_waiting : ℕ
most_waiting = 65536

-- how many bytes a packet has, its fixed header among them (3.2.2.3.6)
abbrev pub most_bytes : ℕ
most_bytes = 65536

-- how many messages a port accepts in all its life: 2^40
abbrev pub most_accepted : ℕ
most_accepted = 1099511627776

-- how many messages a member has that were sent to it and not acknowledged, whatever its Receive Maximum (4.9)
abbrev pub most_unacknowledged : ℕ
most_unacknowledged = 256
