use Rattle.std.proofs.Common.{sym, ap, ◌∙◌}
use Rattle.std.specs.FinMap as map
use Rattle.session_desk.proofs.Seen.{len_seen}
use Rattle.session_desk.proofs.table.Table.len.Goals as goal

pub returns : goal.returns
returns g c = c.len.ensures.len ∙ sym (len_seen c.self.inside.rows.entries c.len.ensures.unique) ∙ ap (λ r. map.len r.rows) c.self.view_is
