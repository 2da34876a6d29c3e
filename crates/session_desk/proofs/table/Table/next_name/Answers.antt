use Rattle.std.proofs.Common.{MatchOption, subst}
use Rattle.session_desk.specs.Names.{IsNextName, NoNameLeft}
use Rattle.session_desk.proofs.table.Table.next_name.Goals as goal

pub returns : goal.returns
returns g c = subst (λ r. MatchOption c.next_name.result (NoNameLeft r.rows c.args.given) (IsNextName r.rows c.args.given)) c.self.view_is c.next_name.ensures
