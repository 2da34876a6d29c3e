use Rattle.std.proofs.Common.{subst, ◌≡◌, MatchOption}
use Rattle.session_desk.specs.declared.session.Session.{Session}
use Rattle.session_desk.specs.declared.row.Row.{Row}
use Rattle.session_desk.specs.Rows.{NoRow}
use Rattle.session_desk.specs.Idle.{IsIdleIn, IsParkedLongest}
use Rattle.session_desk.specs.Layout.{seen}
use Rattle.session_desk.proofs.Searched.{longest_end}
use Rattle.session_desk.proofs.table.Table.parked_longest.Goals as goal

pub returns-in-Some : goal.returns-in-Some
returns-in-Some g c =
    subst (λ r. MatchOption c.oldest.result (NoRow r.rows IsIdleIn) (λ number. (row : Row g.row.E.Denot g.row.P.Denot) × (session : Session g.row.E.Denot g.row.P.Denot) × IsParkedLongest r.rows number row session)) c.self.view_is
    (longest_end (seen c.self.inside.rows.entries) c.in-Some.moment c.oldest.result c.in-Some.ensures c.oldest.ensures)
