use Rattle.session_desk.specs.Books.{new_books}
use Rattle.session_desk.proofs.OneHand.{law_all, law_new}
use Rattle.session_desk.proofs.laws.desk_law.Goals as goal

pub returns-clause-kept : goal.returns-clause-kept
returns-clause-kept g c cell calls b made = law_all cell new_books b calls law_new made

pub returns-clause-onward : goal.returns-clause-onward
returns-clause-onward g c cell calls old new law made = law_all cell old new calls law made
