-- What each call keeps, all calls keep.
use Rattle.std.proofs.Common.{refl}
use Rattle.session_desk.specs.Books.{new_books}
use Rattle.session_desk.proofs.OneHand.{law_new}
use Rattle.session_desk.proofs.AsTold.{few_all, few_next, none_yet}
use Rattle.session_desk.proofs.laws.limit_law.Goals as goal

pub returns-clause-kept : goal.returns-clause-kept
returns-clause-kept g c cell most calls b made told = few_all cell most new_books b calls law_new made told (none_yet _ most refl)

pub returns-clause-onward : goal.returns-clause-onward
returns-clause-onward g c cell most call old new law made told few = few_next cell most old new call law made told few
