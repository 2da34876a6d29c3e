-- How often a transport failed, ended and was idle, and a source failed and gave: each raised by exactly its own answers.
use Rattle.std.specs.Prelude.{◌≡◌, ℕ, ◌+◌, ◌-◌, ◌^◌, ◌<◌, min, List, [], ◌∷◌, ◌++◌, Option, option_map}
use Rattle.transport.specs.declared.counts.Counts.{Counts}
use Rattle.transport.specs.declared.counts.Tally.{Tally}
use Rattle.transport.specs.declared.answers.Got.{Got}
use Rattle.transport.specs.declared.answers.Got.TheVariants as got
use Rattle.transport.specs.declared.answers.Put.{Put}
use Rattle.transport.specs.declared.answers.Put.TheVariants as put
use Rattle.transport.specs.declared.answers.Arrival.{Arrival}
use Rattle.transport.specs.declared.answers.Arrival.TheVariants as arrival

-- the greatest count
abbrev pub greatest : ℕ
greatest = 2 ^ 64 - 1

-- a call may fail and may end once more
pub record MayGoOn (counts : Counts) : Type 0 where
  pub may_fail : counts.failures < greatest
  pub may_end : counts.ends < greatest

abbrev pub one_failure : Counts → Counts
one_failure counts = record { failures = counts.failures + 1; ends = counts.ends; idles = counts.idles }

-- after a read
abbrev pub after_got : Got → Counts → Counts
after_got (got.Bytes count) counts = counts
after_got got.Idle counts = record { failures = counts.failures; ends = counts.ends; idles = min (counts.idles + 1) greatest }
after_got got.End counts = record { failures = counts.failures; ends = counts.ends + 1; idles = counts.idles }
after_got got.Failed counts = one_failure counts

-- after a write
abbrev pub after_put : Put → Counts → Counts
after_put (put.Wrote count) counts = counts
after_put put.Idle counts = counts
after_put put.Failed counts = one_failure counts

-- it may fail and may give once more
pub record MayCome (tally : Tally) : Type 0 where
  pub may_fail : tally.failures < greatest
  pub may_give : tally.arrivals < greatest

-- of a transport that was not called yet
abbrev pub no_counts : Counts
no_counts = record { failures = 0; ends = 0; idles = 0 }

-- of what came nothing was counted yet
abbrev pub ComesNew : {T : Type 0} → (T → Counts) → Arrival T → Type 0
ComesNew counts (arrival.Came transport) = counts transport ≡ no_counts
ComesNew counts arrival.Idle = Unit {0}
ComesNew counts arrival.End = Unit {0}
ComesNew counts arrival.Failed = Unit {0}

-- after it was asked
abbrev pub after_arrival : {T : Type 0} → Arrival T → Tally → Tally
after_arrival (arrival.Came value) tally = record { failures = tally.failures; arrivals = tally.arrivals + 1 }
after_arrival arrival.Idle tally = tally
after_arrival arrival.End tally = tally
after_arrival arrival.Failed tally = record { failures = tally.failures + 1; arrivals = tally.arrivals }

-- what came with this answer
abbrev pub came_in : {T : Type 0} → Arrival T → List T
came_in (arrival.Came transport) = transport ∷ []
came_in arrival.Idle = []
came_in arrival.End = []
came_in arrival.Failed = []

-- all that came, in its order, after this answer
abbrev pub after_came : {T : Type 0} → Arrival T → Option (List T) → Option (List T)
after_came answer arrived = option_map (λ those. those ++ came_in answer) arrived

-- how many bytes an answer gave, or took
abbrev pub got_count : Got → ℕ
got_count (got.Bytes count) = count
got_count got.Idle = 0
got_count got.End = 0
got_count got.Failed = 0

abbrev pub put_count : Put → ℕ
put_count (put.Wrote count) = count
put_count put.Idle = 0
put_count put.Failed = 0
