use Rattle.std.proofs.Common.{ap, ◌∙◌}
use Rattle.session_desk.proofs.Seen.{no_entries}
use Rattle.session_desk.proofs.table.Table.end.Goals as goal

pub destroy_empty-requires : goal.destroy_empty-requires
destroy_empty-requires g c = no_entries c.self.inside.rows.entries c.len-len.ensures.unique (ap (λ r. r.rows) c.self.view_is ∙ c.requires)
