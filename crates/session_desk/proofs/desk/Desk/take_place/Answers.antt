use Rattle.std.proofs.Common.{ap, subst}
use Rattle.session_desk.specs.Books.{with_free}
use Rattle.session_desk.specs.Places.{TakesPlace, cell_at}
use Rattle.session_desk.proofs.desk.Desk.take_place.Goals as goal

pub returns : goal.returns
returns g c = (
  c.take.new.self,
  subst (λ old. TakesPlace old (cell_at (g.P.Place.slot_of c.args.place) (g.P.Place.number_of c.args.place)) c.args.place c.take.result c.take.new.self) (ap (λ b. b.free) c.self.view_is) c.take.ensures,
  ap (λ b. with_free b c.take.new.self) c.self.view_is,
)
