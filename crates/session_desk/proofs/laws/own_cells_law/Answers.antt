use Rattle.std.proofs.Common.{◌<◌}
use Rattle.session_desk.specs.Books.{new_books}
use Rattle.session_desk.specs.Everywhere.{IfMember}
use Rattle.session_desk.specs.Places.{IsOwnCell, cell_at}
use Rattle.session_desk.proofs.Cells.{none_free}
use Rattle.session_desk.proofs.Everywhere.{free_all, free_call, own_at}
use Rattle.session_desk.proofs.laws.own_cells_law.Goals as goal

pub returns-clause-kept : goal.returns-clause-kept
returns-clause-kept g c calls b made going =
    let slot_of = g.P.Place.slot_of in
    let number_of = g.P.Place.number_of in
    free_all (λ session. IfMember (λ place. number_of place < 32) session.membership) (λ place. number_of place < 32) (λ place. cell_at (slot_of place) (number_of place)) (IsOwnCell slot_of number_of) (own_at slot_of number_of) (λ session small none. small) new_books b calls made going
    (λ cell place has. absurd (none_free 256 cell place has))

pub returns-clause-onward : goal.returns-clause-onward
returns-clause-onward g c call old new made going held =
    let slot_of = g.P.Place.slot_of in
    let number_of = g.P.Place.number_of in
    free_call (λ session. IfMember (λ place. number_of place < 32) session.membership) (λ place. number_of place < 32) (λ place. cell_at (slot_of place) (number_of place)) (IsOwnCell slot_of number_of) (own_at slot_of number_of) (λ session small none. small) old new call made going held
