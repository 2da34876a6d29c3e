-- What a broker on one thread tells of its groups.
use Rattle.std.specs.Prelude.{◌≡◌, ℕ, List, Some, slice_get}
use Rattle.mqtt_topic.specs.Names.{Share}
use Rattle.group_jobs.specs.declared.report.Report.{Report}
use Rattle.group_jobs.specs.Reports.{report_line}
use Rattle.local_group.specs.Groups.{Group}
use Rattle.local_group.specs.Reporting.{Reports}
use Rattle.local_broker.specs.Broker.{Broker}

-- the line of a share: that of the report of its group
pub record IsLineOf (share : Share) (group : Group) (line : List ℕ) : Type 0 where
  pub report : Report
  pub reports : Reports group report
  pub told : line ≡ report_line share report

-- the line of the share that is bound to this slot
pub record TellsLine (b : Broker) (slot : ℕ) (line : List ℕ) : Type 0 where
  pub share : Share
  pub bound : slice_get b.routes slot ≡ Some share
  pub group : Group
  pub there : slice_get b.groups slot ≡ Some group
  pub is_line : IsLineOf share group line
