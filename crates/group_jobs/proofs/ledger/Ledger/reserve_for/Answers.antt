-- Room for the longest of the lists is room for each.
use Rattle.std.proofs.Common.{◌≤◌, ◌+◌, ℕ, length, arith}
use Rattle.group_jobs.specs.declared.fate.Fate.{Fate}
use Rattle.group_jobs.specs.declared.fate.Fate.TheVariants.{Acknowledged, Refused, Discarded}
use Rattle.group_jobs.specs.declared.ledger.Ledger.{Ledger}
use Rattle.group_jobs.specs.Settled.{runs_of, spare_of, least_spare}
use Rattle.group_jobs.proofs.ledger.Ledger.reserve_for.Goals as goal

each : (old other new : Ledger) (room : ℕ) → ((fate : Fate) → least_spare old + length (runs_of fate other) ≤ room) → ((fate : Fate) → room ≤ spare_of fate new)
    → (fate : Fate) → least_spare old + length (runs_of fate other) ≤ least_spare new
each old other new room all enough fate = omega (arith, all fate, enough Acknowledged, enough Refused, enough Discarded)

pub returns-clause-ok : goal.returns-clause-ok
returns-clause-ok c = each c.args.self.now c.args.other.now c.reserve.new.self c.in-Some.room all c.in_ok-reserve.ensures.ok
  where
    all : (fate : Fate) → least_spare c.args.self.now + length (runs_of fate c.args.other.now) ≤ c.in-Some.room
    all Acknowledged = omega (arith, c.spare.ensures.value, c.max.ensures, c.max-most.ensures, c.in-Some.ensures, c.run_count-acknowledged.ensures)
    all Refused = omega (arith, c.spare.ensures.value, c.max.ensures, c.max-most.ensures, c.in-Some.ensures, c.run_count-refused.ensures)
    all Discarded = omega (arith, c.spare.ensures.value, c.max.ensures, c.max-most.ensures, c.in-Some.ensures, c.run_count-discarded.ensures)
