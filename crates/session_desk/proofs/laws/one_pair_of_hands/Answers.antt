use Rattle.std.proofs.Common.{ap, arith}
use Rattle.std.specs.Ordering.{nat_cmp}
use Rattle.std.specs.FinMap.{get-empty}
use Rattle.session_desk.specs.declared.row.Row.{Row}
use Rattle.session_desk.specs.Books.{new_books}
use Rattle.session_desk.specs.Hands.{out_of_row, row_count}
use Rattle.session_desk.proofs.OneHand.{hands_all, rows_all, law_new, none_below}
use Rattle.session_desk.proofs.laws.one_pair_of_hands.Goals as goal

pub returns-clause-once : goal.returns-clause-once
returns-clause-once g c cell calls b made number =
    let all = rows_all cell new_books b calls number law_new made in
    let none = ap row_count (get-empty {X = Row g.row.E.Denot g.row.P.Denot} nat_cmp number) in
    let below = none_below number in
    omega arith

pub returns-clause-hands : goal.returns-clause-hands
returns-clause-hands g c cell calls b made number =
    let all = hands_all cell new_books b calls number law_new made in
    let none = ap out_of_row (get-empty {X = Row g.row.E.Denot g.row.P.Denot} nat_cmp number) in
    omega arith
