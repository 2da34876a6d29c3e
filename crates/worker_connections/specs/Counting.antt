-- How connections have ended, counted.
use Rattle.std.specs.Prelude.{ℕ, ◌+◌, min, List, [], ◌∷◌, Option, Some, None}
use Rattle.conn_service.specs.declared.served.Served.{Served}
use Rattle.conn_service.specs.declared.served.Served.TheVariants.{Ended, Read, Write, Memory, NoCrossing, Stalled}
use Rattle.worker_connections.specs.declared.cell_outcome.CellOutcome.{CellOutcome}
use Rattle.worker_connections.specs.declared.cell_outcome.CellOutcome.TheVariants as turns
use Rattle.worker_connections.specs.declared.served.ServedCounts.{ServedCounts}

-- one more, up to 2^64 - 1
abbrev pub raised : ℕ → ℕ
raised count = min (count + 1) 18446744073709551615

abbrev pub none_served : ServedCounts
none_served = record { ended = 0; read = 0; write = 0; memory = 0; no_crossing = 0; stalled = 0 }

-- one more that ended so
abbrev pub counted : Served → ServedCounts → ServedCounts
counted Ended counts = record counts { ended = raised counts.ended }
counted Read counts = record counts { read = raised counts.read }
counted Write counts = record counts { write = raised counts.write }
counted Memory counts = record counts { memory = raised counts.memory }
counted NoCrossing counts = record counts { no_crossing = raised counts.no_crossing }
counted Stalled counts = record counts { stalled = raised counts.stalled }

-- one more, where one ended so
abbrev pub counted_if : Option Served → ServedCounts → ServedCounts
counted_if None counts = counts
counted_if (Some how) counts = counted how counts

-- after a round, which may have ended one
abbrev pub counted_behind : {T : Type 0} → CellOutcome T → ServedCounts → ServedCounts
counted_behind turns.Vacant counts = counts
counted_behind (turns.Goes round) counts = counts
counted_behind (turns.Ended how transport) counts = counted how counts

-- the counts of connections that ended so, the latest first
abbrev pub counts_of : List Served → ServedCounts
counts_of [] = none_served
counts_of (how ∷ rest) = counted how (counts_of rest)

-- how many connections are counted
abbrev pub total : ServedCounts → ℕ
total counts = counts.ended + counts.read + counts.write + counts.memory + counts.no_crossing + counts.stalled
