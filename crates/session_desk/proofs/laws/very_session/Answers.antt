use Rattle.session_desk.specs.Books.{new_books}
use Rattle.session_desk.proofs.OneHand.{law_all, law_new}
use Rattle.session_desk.proofs.LastIn.{very_session}
use Rattle.session_desk.proofs.laws.very_session.Goals as goal

pub returns : goal.returns
returns g c cell calls b after next session made then out = very_session cell b after calls next session (law_all cell new_books b calls law_new made) made then out
