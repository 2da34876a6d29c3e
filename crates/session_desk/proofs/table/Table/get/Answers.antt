use Rattle.std.proofs.Common.{sym, ap, ◌∙◌}
use Rattle.std.specs.FinMap as map
use Rattle.session_desk.proofs.Seen.{get_seen}
use Rattle.session_desk.proofs.table.Table.get.Goals as goal

pub returns : goal.returns
returns g c = c.get.ensures.value ∙ sym (get_seen c.self.inside.rows.entries c.args.number) ∙ ap (λ r. map.get r.rows c.args.number) c.self.view_is
