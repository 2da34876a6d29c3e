-- What is asked of every fate, at each.
use Rattle.group_jobs.specs.declared.fate.Fate.TheVariants.{Acknowledged, Refused, Discarded}
use Rattle.group_jobs.proofs.ledger.Ledger.merge.Goals as goal

pub merge-requires : goal.merge-requires
merge-requires c = record { room = c.requires Acknowledged }

pub merge-requires-2 : goal.merge-requires-2
merge-requires-2 c = record { room = c.requires Refused }

pub merge-requires-3 : goal.merge-requires-3
merge-requires-3 c = record { room = c.requires Discarded }
