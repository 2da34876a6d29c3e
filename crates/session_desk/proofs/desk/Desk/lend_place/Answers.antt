use Rattle.std.proofs.Common.{ap, subst}
use Rattle.session_desk.specs.Books.{with_free}
use Rattle.session_desk.specs.Places.{LendsPlace}
use Rattle.session_desk.proofs.desk.Desk.lend_place.Goals as goal

pub returns-clause-least : goal.returns-clause-least
returns-clause-least g c = (
  c.lend.new.self,
  subst (λ old. LendsPlace old c.args.slot c.lend.result c.lend.new.self) (ap (λ b. b.free) c.self.view_is) c.lend.ensures.lends,
  ap (λ b. with_free b c.lend.new.self) c.self.view_is,
)
